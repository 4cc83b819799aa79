-- Tables that were stored before each fact.
use Rattle.std.specs.Prelude.{◌≡◌, ℕ, ◌<◌, List, [], length, take, slice_index_or}
use Rattle.tt_path.specs.declared.facts.Fact.{Fact}

-- The table stored before each fact shows the facts before it.
pub record AreEarlier (Shows : List Fact → List ℕ → Type 0) (facts : List Fact) (earlier : List (List ℕ)) : Type 0 where
  pub len : length earlier ≡ length facts
  pub each : (i : ℕ) → i < length facts → Shows (take i facts) (slice_index_or earlier i [])

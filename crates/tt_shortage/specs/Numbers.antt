-- Lists of numbers.
use Rattle.std.specs.Prelude.{◌≡◌, ℕ, true, List}
use Rattle.tt_list_laws.specs.Words.{are_distinct}
use Rattle.tt_leaf.specs.Ranges.{AreBelow}

-- Distinct numbers below a bound.
pub record AreNumbers (count : ℕ) (ns : List ℕ) : Type 0 where
  pub within : AreBelow count ns
  pub once : are_distinct ns ≡ true

-- What an output does with a text.
use Rattle.std.specs.Prelude.{◌≡◌, ℕ, Bool, true, false, if◌then◌else◌, List, ◌++◌, Option}
use Rattle.std.specs.Io.KnownBytes.{Appends}
use Rattle.tt_report.specs.declared.output.Output.{Output}

-- The sink took bytes from the front of those in the buffer and the text after them. The rest is in the buffer, unless a write failed.
-- After a failed write the sink stays as it is.
pub record Puts {W : Type 0} (contents : W → Option (List ℕ)) (has_failed : W → Bool) (before after : Output W) (text : List ℕ) : Type 0 where
  pub same_sink : after.sink.ghost_name ≡ before.sink.ghost_name
  pub taken : List ℕ
  pub rest : List ℕ
  pub front : before.held.items ++ text ≡ taken ++ rest
  pub appended : Appends (contents before.sink.now) (contents after.sink.now) taken
  pub held : after.failed ≡ false → after.held.items ≡ rest
  pub failed : before.failed ≡ false → has_failed after.sink.now ≡ (if after.failed then true else has_failed before.sink.now)
  pub stopped : before.failed ≡ true → (after.failed ≡ true) × (after.sink.now ≡ before.sink.now)

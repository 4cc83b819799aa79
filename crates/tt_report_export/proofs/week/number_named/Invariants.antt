use Rattle.std.proofs.Common.{◌≡◌, ℕ, ◌<◌, Some}
use Rattle.std.specs.Prelude.{slice_get}
use Rattle.tt_report_export.specs.Weeks.{names_by}
use Rattle.tt_report_export.proofs.week.number_named.Given as goal

abbrev pub invariant-loop-number : goal.invariant-loop-number
invariant-loop-number l = (n : ℕ) → n < l.number → ¬ (slice_get (names_by l.instance l.by) n ≡ Some l.name)

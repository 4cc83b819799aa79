use Rattle.std.proofs.Common.{◌≡◌}
use Rattle.std.specs.Prelude.{filter}
use Rattle.tt_list_laws.specs.Words.{range_below}
use Rattle.tt_groups.specs.Prices.{concerns}
use Rattle.tt_groups.specs.Rows.{group_of}
use Rattle.tt_prices_check.proofs.courses.courses_of.Given as goal

abbrev pub invariant-loop-course : goal.invariant-loop-course
invariant-loop-course l = l.courses.items ≡ filter (concerns l.instance (group_of l.group)) (range_below l.course)

use Rattle.std.proofs.Common.{◌≡◌, true, take}
use Rattle.std.specs.List.{list_all}
use Rattle.tt_instance.specs.Cells.{all_slots}
use Rattle.tt_leaf_rules.specs.Inner.Nested.{is_period_dead}
use Rattle.tt_leaf_rules.proofs.empty.is_course_dead.Given as goal

abbrev pub invariant-loop-place : goal.invariant-loop-place
invariant-loop-place g l =
    let p = g.P.Path.problem l.path in
    list_all (is_period_dead p (g.P.Path.facts l.path) l.pattern l.course) (take l.place (all_slots p)) ≡ true

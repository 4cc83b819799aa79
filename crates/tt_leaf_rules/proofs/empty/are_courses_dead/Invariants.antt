use Rattle.std.proofs.Common.{◌≡◌, true, take}
use Rattle.std.specs.List.{list_all}
use Rattle.tt_leaf_rules.specs.Inner.Nested.{is_gone_or_dead}
use Rattle.tt_leaf_rules.proofs.empty.are_courses_dead.Given as goal

abbrev pub invariant-loop-course : goal.invariant-loop-course
invariant-loop-course g l =
    list_all (is_gone_or_dead (g.P.Path.problem l.path) (g.P.Path.facts l.path) l.pattern) (take l.course-index l.courses) ≡ true

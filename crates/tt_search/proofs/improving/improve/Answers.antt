use Rattle.std.proofs.Common.{◌-◌, ◌/◌, subst, sym}
use Rattle.tt_walk.specs.Improved.{IsDescended}
use Rattle.tt_walk.proofs.Improvements.{no_worse_then_down, no_worse_down}
use Rattle.tt_search.proofs.improving.improve.Goals as goal

pub returns-clause-descended : goal.returns-clause-descended
returns-clause-descended g c =
    let a = c.args in
    let walked = c.in_ok-occupied in
    subst (IsDescended a.instance.now a.table (a.steps / 2) (a.steps - a.steps / 2)) (sym c.into_timetable.ensures)
    (no_worse_then_down a.instance.now a.table c.descend_in.new.occupied.entries c.in-Ok.occupied walked.occupied _ _ _
    c.in-Ok.ensures.ok walked.ensures.problem walked.ensures.best walked.ensures.reached c.descend_in.ensures.descent)

pub returns-clause-no_worse : goal.returns-clause-no_worse
returns-clause-no_worse g c = no_worse_down (returns-clause-descended g c)

use Rattle.std.proofs.Common.{ap, ◌∙◌}
use Rattle.std.specs.List.{list_any}
use Rattle.tt_instance.specs.Problem.{Problem}
use Rattle.tt_instance.specs.Cells.{slot, is_at}
use Rattle.tt_instance.specs.Courses.{conflict}
use Rattle.tt_page_text.proofs.Counting.{any_in_group}
use Rattle.tt_page_weeks.proofs.marks.is_in_conflict.Goals as goal

pub returns : goal.returns
returns c =
    let p = c.args.plan.now.problem in
    let e = c.args.entry.now in
    c.has_conflict_with.ensures
    ∙ ap (λ (q : Problem). list_any (λ x. conflict q x.course e.course) c.in_period-others.result) c.instance-instance.ensures
    ∙ any_in_group (is_at (slot e.day e.period)) (λ x. conflict p x.course e.course) c.args.plan.now.table c.in_period-others.result
    c.in_period-others.ensures.group

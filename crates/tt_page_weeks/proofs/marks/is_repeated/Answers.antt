use Rattle.std.proofs.Common.{ap, ◌∙◌}
use Rattle.std.specs.Prelude.{nat_lt}
use Rattle.tt_instance.specs.Cells.{slot, is_at, is_of}
use Rattle.tt_page_text.proofs.Counting.{count_in_group}
use Rattle.tt_page_weeks.proofs.marks.is_repeated.Goals as goal

pub returns : goal.returns
returns c =
    let e = c.args.entry.now in
    ap (nat_lt 1)
    (c.count_of-count.ensures ∙ count_in_group (is_at (slot e.day e.period))
    (is_of e.course) c.args.plan.now.table c.in_period-others.result c.in_period-others.ensures.group)

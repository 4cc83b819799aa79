use Rattle.std.proofs.Common.{sym, ◌∙◌, eqb-true, length, arith}
use Rattle.tt_page_text.proofs.Growing.{text_full}
use Rattle.tt_page_lists.specs.Grouped.{curriculum_item}
use Rattle.tt_page_lists.proofs.grouped.put_curriculum_items.Goals as goal

pub returns-then-is_full : goal.returns-then-is_full
returns-then-is_full c =
    text_full (curriculum_item c.args.plan.now.problem c.args.plan.now.table c.args.labels.now) c.loop-curriculum.curriculum
    (length c.args.plan.now.problem.curricula) c.args.out.now
    c.loop-curriculum.out (grind arith) c.loop-curriculum.invariant
    (eqb-true c.loop-curriculum.out.left 0 (sym c.is_full.ensures ∙ c.if-is_full.true))

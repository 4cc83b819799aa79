use Rattle.std.proofs.Common.{sym, ◌∙◌, eqb-true}
use Rattle.tt_page_text.proofs.Growing.{taken_full}
use Rattle.tt_page_weeks.specs.Grids.{grid_text}
use Rattle.tt_page_weeks.proofs.grids.put_grids.Goals as goal

pub returns-then-is_full : goal.returns-then-is_full
returns-then-is_full c =
    taken_full (grid_text c.args.plan.now.problem c.args.plan.now.table c.args.view.now.labels.now c.args.view.now.is_linked
    c.args.kind) c.args.numbers.now
    c.loop-number.number-index c.args.out.now
    c.loop-number.out c.loop-number.invariant (eqb-true c.loop-number.out.left 0 (sym c.is_full.ensures ∙ c.if-is_full.true))

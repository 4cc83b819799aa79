use Rattle.std.proofs.Common.{◌≡◌, ◌∙◌, List, sym, subst}
use Rattle.tt_instance.specs.declared.cell.Cell.{Cell}
use Rattle.tt_path.specs.Facts.{Fits}
use Rattle.tt_search.specs.Improved.{IsNoWorse}
use Rattle.tt_branch.proofs.best.improve_to.Goals as goal
use Rattle.tt_branch.proofs.best.improve_to.Goals.{then-is_better, else-is_better}

pub loop-turn-preserved : goal.loop-turn-preserved
loop-turn-preserved g c =
    let p = c.args.instance.now in
    let i = c.loop-turn.invariant in
    let found = c.in_ok-found.found in
    let start : c.in_ok-copy.field-0 ≡ c.args.table = c.in_ok-copy.ensures ∙ c.in_ok-start.ensures in
    elim c.if-is_better.branch [
      | then-is_better w ↦ record {
        no_worse = subst (IsNoWorse p c.args.table) (sym w.best-is)
            (subst (λ (t : List Cell). IsNoWorse p t found) start c.in_ok-found.ensures.no_worse);
        fits = λ _. subst (λ (t : List Cell). Fits p t c.args.root.now) (sym w.best-is) (c.is_better.ensures w.if-is_better.true);
      }
      | else-is_better w ↦ record {
        no_worse = subst (IsNoWorse p c.args.table) (sym w.best-is) i.no_worse;
        fits = λ fits. subst (λ (t : List Cell). Fits p t c.args.root.now) (sym w.best-is) (i.fits fits);
      }
    ]

use Rattle.tt_path.specs.Facts.{Fits}
use Rattle.tt_search.specs.Improved.{IsNoWorse}
use Rattle.tt_branch.proofs.best.improve_to.Given as goal

abbrev pub invariant-loop-turn : goal.invariant-loop-turn
invariant-loop-turn g l = record {
  no_worse : IsNoWorse l.instance l.fn.table l.best;
  fits : Fits l.instance l.fn.table l.root → Fits l.instance l.best l.root;
}

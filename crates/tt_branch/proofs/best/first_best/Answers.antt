use Rattle.std.proofs.Common.{List, Option, sym, subst}
use Rattle.std.specs.Prelude.{IfOk}
use Rattle.std.proofs.lemmas.Result.{IfOk-weaker}
use Rattle.tt_instance.specs.declared.cell.Cell.{Cell}
use Rattle.tt_branch.specs.Inner.BestSoFar.{table_of}
use Rattle.tt_branch.specs.Outcomes.{BeginsAnew, BeginsWell, Keeps}
use Rattle.tt_branch.proofs.best.first_best.Goals as goal

pub returns-in_ok-descent-in-None-clause-begun : goal.returns-in_ok-descent-in-None-clause-begun
returns-in_ok-descent-in-None-clause-begun g c =
    let p = c.args.instance.now in
    let root = c.args.root.now in
    let end = c.in_ok-descent-in-None.descent.table in
    let begun = IfOk-weaker c.best_from-in-None.result (λ best. Keeps p root (table_of best) end)
    (λ best. BeginsAnew p root (table_of best))
    (λ best kept. record {
      start = c.in_ok-table-in-None.table;
      constructed = c.in_ok-table-in-None.ensures;
      end = end;
      settled = c.in_ok-descent-in-None.descent.settled;
      descent = c.in_ok-descent-in-None.ensures.descent;
      kept = kept;
    })
    c.best_from-in-None.ensures.kept in
    subst (λ (given : Option (List Cell)). IfOk c.best_from-in-None.result (λ best. BeginsWell p root given (table_of best)))
    (sym c.in-None.is) begun

use Rattle.std.proofs.Common.{◌≡◌, List, sym, subst}
use Rattle.std.proofs.lemmas.Result.{IfOk-weaker}
use Rattle.tt_instance.specs.declared.cell.Cell.{Cell}
use Rattle.tt_best.specs.Weeks.{IsNoHigher}
use Rattle.tt_best.proofs.searching.search_round.Goals as goal

pub returns-clause-no_higher : goal.returns-clause-no_higher
returns-clause-no_higher g c =
    let p = c.args.instance.now in
    let before = c.args.week.table in
    let better = c.in_ok-better in
    IfOk-weaker c.search_bounds.result (λ w. w.table ≡ better.better.table) (λ w. IsNoHigher p before w.table)
    (λ w same. subst (λ (t : List Cell). IsNoHigher p before t) (sym same) better.ensures.no_higher) c.search_bounds.ensures.same

use Rattle.std.proofs.Common.{List, Option, refl, sym, ◌∙◌, subst, arith}
use Rattle.std.proofs.lemmas.Result.{IfOk-weaker}
use Rattle.tt_instance.specs.Problem.{Problem}
use Rattle.tt_instance.specs.declared.cell.Cell.{Cell}
use Rattle.tt_branch.specs.declared.best.Best.{Best}
use Rattle.tt_branch.specs.Inner.BestSoFar.{table_of, Advances}
use Rattle.tt_branch.specs.Outcomes.{BeginsWell, IsOutcome, IsOutcomeUntil}
use Rattle.tt_branch.specs.Inner.State.{IsUnderWay}
use Rattle.tt_branch.proofs.Advancing.{advance_twice}
use Rattle.tt_branch.proofs.Concluding.{begun_still}
use Rattle.tt_branch.proofs.solving.solve_over.Goals as goal

pub conclude-requires : goal.conclude-requires
conclude-requires g c = λ κs.
    let root = c.args.root.now in
    let e = c.in_ok-ending.ensures in (
      (refl, tt),
      (
        e.rooted,
        (
          subst (λ (q : Problem). IsUnderWay q root c.grow.new.search) (sym e.unchanged) e.under_way,
          (e.ends, omega (arith, e.within, c.requires.at_most)),
        ),
      ),
    )

pub returns : goal.returns
returns g c =
    let p = g.P.Path.problem c.args.path.now in
    let q = g.P.Path.problem c.grow.new.path in
    let root = c.args.root.now in
    let e = c.in_ok-ending.ensures in
    let opened = c.in_ok-ending.ending.opened in
    let new = c.grow.new.search.best in
    let same = e.unchanged ∙ c.in_ok-open_at.ensures.unchanged in
    let first = c.in_ok-open_at.ensures.better in
    let second = subst (λ (r : Problem). Advances r root c.open_at.new.search.best new) c.in_ok-open_at.ensures.unchanged e.better in
    let all = subst (λ (b : Option Best). Advances p root b new) c.in_ok-search.ensures.best
    (advance_twice p root c.in_ok-search.search.best c.open_at.new.search.best new first second) in
    IfOk-weaker c.conclude.result
    (λ o. (given : Option (List Cell)) → BeginsWell q root given (table_of new)
    → IsOutcome q root given opened o.best o.bound o.proof.items o.finished)
    (λ o. (given : Option (List Cell)) → BeginsWell p root given (table_of c.args.best)
    → IsOutcomeUntil p root given c.args.limit (g.W.Watch.has_ended c.grow.new.watch) o.best o.bound o.proof.items o.finished)
    (λ o is. λ given begun. record {
      opened = opened;
      at_most = e.within;
      all = e.all;
      outcome = subst (λ (r : Problem). IsOutcome r root given opened o.best o.bound o.proof.items o.finished) same
          (is given (subst (λ (r : Problem). BeginsWell r root given (table_of new)) (sym same)
          (begun_still p root given c.args.best new begun all)));
    })
    c.conclude.ensures

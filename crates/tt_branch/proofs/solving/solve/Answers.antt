use Rattle.std.proofs.Common.{List, Option, [], ◌++◌, refl, sym, ap, ◌∙◌, subst, arith}
use Rattle.std.specs.Prelude.{IfOk}
use Rattle.std.proofs.lemmas.List.{append-nil}
use Rattle.std.proofs.lemmas.Result.{IfOk-weaker}
use Rattle.tt_instance.specs.Problem.{Problem}
use Rattle.tt_instance.specs.declared.cell.Cell.{Cell}
use Rattle.tt_path.specs.declared.facts.Fact.{Fact}
use Rattle.tt_leaf_find.specs.Found.{ArePatterns}
use Rattle.tt_branch.specs.Inner.BestSoFar.{IsBestSoFar, FitsRoot, table_of}
use Rattle.tt_branch.specs.Outcomes.{BeginsWell, IsOutcomeUntil}
use Rattle.tt_branch.proofs.solving.solve.Goals as goal

pub solve_over-requires : goal.solve_over-requires
solve_over-requires g c = λ κs.
    let root = c.args.start.root.now in
    let best = c.in_ok-best.best in
    let same = sym c.in_ok-path.ensures.problem in
    let facts = c.in_ok-path.ensures.facts in (
      (refl, tt),
      (
        record { below = []; whole = facts ∙ sym (append-nil root) },
        (
          subst (λ (p : Problem). ArePatterns p root) same c.requires.patterns,
          (
            subst (λ (p : Problem). IsBestSoFar p best) same c.in_ok-best.ensures.best,
            (
              subst (λ (p : Problem). FitsRoot p root best) same c.in_ok-best.ensures.fits,
              (c.requires.positive, omega (arith, c.requires.few)),
            ),
          ),
        ),
      ),
    )

pub returns : goal.returns
returns g c =
    let p = c.args.instance.now in
    let root = c.args.start.root.now in
    let given = c.args.start.table in
    let best = c.in_ok-best.best in
    let ended = g.W.Watch.has_ended c.solve_over.new.watch in
    let same = c.in_ok-path.ensures.problem in
    IfOk-weaker c.solve_over.result
    (λ o. (t : Option (List Cell)) → BeginsWell p root t (table_of best)
    → IsOutcomeUntil p root t c.args.nodes ended o.best o.bound o.proof.items o.finished)
    (λ o. IsOutcomeUntil p root given c.args.nodes ended o.best o.bound o.proof.items o.finished)
    (λ o is. is given c.in_ok-best.ensures.begun)
    (subst (λ (q : Problem). IfOk c.solve_over.result (λ o. (t : Option (List Cell)) → BeginsWell q root t (table_of best)
    → IsOutcomeUntil q root t c.args.nodes ended o.best o.bound o.proof.items o.finished)) same c.solve_over.ensures)

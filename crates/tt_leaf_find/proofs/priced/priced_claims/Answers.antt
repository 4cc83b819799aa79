use Rattle.std.proofs.Common.{sym, subst}
use Rattle.std.specs.Prelude.{All}
use Rattle.std.proofs.lemmas.List.Elements.{All-append}
use Rattle.tt_leaf.specs.declared.leaf.Leaf.TheVariants.{Cost}
use Rattle.tt_leaf_find.specs.Found.{IsAnswer, IsFitClaim}
use Rattle.tt_leaf_find.proofs.Answering.{compact_fit, fit_answer}
use Rattle.tt_leaf_find.proofs.priced.priced_claims.Goals as goal

pub returns : goal.returns
returns g c =
    let p = g.P.Path.problem c.args.path.now in
    let fit = All-append (IsFitClaim p) _ _ c.in_ok-add_of_courses.ensures (compact_fit p (g.P.Path.facts c.args.path.now)) in
    subst (λ claims. IsAnswer p (Cost claims)) (sym c.new.ensures)
    (fit_answer p _ (subst (All (IsFitClaim p)) (sym c.in_ok-push_compact.ensures) fit))

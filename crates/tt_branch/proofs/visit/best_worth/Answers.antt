use Rattle.std.proofs.Common.{refl, sym, subst}
use Rattle.tt_leaf_rules.specs.Outcomes.{IsClaimedOnce}
use Rattle.tt_leaf.specs.declared.leaf.Claim.TheVariants.{Days}
use Rattle.tt_leaf_find.proofs.Claims.{once}
use Rattle.tt_branch.proofs.visit.best_worth.Goals as goal

pub leaf_value-requires : goal.leaf_value-requires
leaf_value-requires g c = λ κs.
    let p = g.P.Path.problem c.args.path.now in (
      (refl, tt),
      (
        c.in_ok-leaf.ensures.answer.numbers,
        subst IsClaimedOnce (sym c.in_ok-leaf.ensures.leaf)
            (once Days (λ c. refl) p (g.P.Path.facts c.args.path.now)),
      ),
    )

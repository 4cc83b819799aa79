use Rattle.std.proofs.Common.{sym, subst}
use Rattle.std.specs.Prelude.{All}
use Rattle.tt_leaf_find.specs.Found.{IsFitClaim}
use Rattle.tt_leaf_find.proofs.priced.add_capacities.Goals as goal
use Rattle.tt_leaf_find.proofs.priced.add_capacities.Goals.{then-is_alone+in_ok-push_capacity_of, else-is_alone}

pub loop-course-preserved : goal.loop-course-preserved
loop-course-preserved g c =
    let p = g.P.Path.problem c.args.path.now in
    elim c.if-is_alone.branch [
      | then-is_alone+in_ok-push_capacity_of w ↦ subst (λ v. All (IsFitClaim p) v.items) (sym w.claims-is)
          (w.in_ok-push_capacity_of.ensures.fit c.loop-course.invariant)
      | else-is_alone w ↦ subst (λ v. All (IsFitClaim p) v.items) (sym w.claims-is) c.loop-course.invariant
    ]

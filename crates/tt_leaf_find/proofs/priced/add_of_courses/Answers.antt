use Rattle.std.proofs.Common.{◌<◌, length, ap, arith}
use Rattle.tt_leaf_find.proofs.priced.add_of_courses.Goals as goal

pub loop-course-preserved : goal.loop-course-preserved
loop-course-preserved g c =
    let p = g.P.Path.problem c.args.path.now in
    let below : c.loop-course.course < length p.courses =
    omega (arith, c.courses-course-end.ensures.value, ap (λ z. length z.courses) c.instance.ensures) in
    c.in_ok-push_if_worth-2.ensures.fit (record { numbers = below; short = tt })
    (c.in_ok-push_if_worth.ensures.fit c.days_claim.ensures c.loop-course.invariant)

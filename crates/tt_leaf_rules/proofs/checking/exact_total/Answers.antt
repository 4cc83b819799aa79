use Rattle.std.proofs.Common.{length, ap, arith}
use Rattle.tt_leaf_rules.proofs.Sizes.{claimed-le}
use Rattle.tt_leaf_rules.proofs.checking.exact_total.Goals as goal

pub returns : goal.returns
returns g c =
    let at_most = claimed-le (g.P.Path.problem c.args.path.now) c.args.claims.now c.requires.claims c.requires.once in
    let taught = ap (λ q. length q.courses) c.instance-instance.ensures in
    let grouped = ap (λ q. length q.curricula) c.instance-instance.ensures in
    omega (arith, at_most, taught, grouped)

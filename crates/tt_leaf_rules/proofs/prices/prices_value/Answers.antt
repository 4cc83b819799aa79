use Rattle.std.proofs.Common.{length, ap, arith}
use Rattle.tt_leaf_rules.proofs.Sizes.{few_prices}
use Rattle.tt_leaf_rules.proofs.prices.prices_value.Goals as goal

pub prove-unreachable-requires : goal.prove-unreachable-requires
prove-unreachable-requires g c =
    let p = g.P.Path.problem c.args.path.now in
    omega (
      arith,
      few_prices (length p.courses) c.args.courses.now c.requires.courses,
      ap (λ q. length q.courses) c.instance-instance.ensures,
    )

pub prove-unreachable-requires-2 : goal.prove-unreachable-requires-2
prove-unreachable-requires-2 g c =
    let p = g.P.Path.problem c.args.path.now in
    omega (arith, few_prices (length p.rooms) c.args.rooms.now c.requires.rooms, ap (λ q. length q.rooms) c.instance-instance.ensures)

use Rattle.std.proofs.Common.{◌≡◌, ◌*◌, ap, ◌∙◌, arith}
use Rattle.std.proofs.Math.Nat.{mul-le-mul_left, mul-le-mul_right}
use Rattle.tt_groups_check.proofs.check.places_of.Goals as goal

pub returns-clause-small : goal.returns-clause-small
returns-clause-small c =
    let product : c.from.result * c.from-2.result ≡ c.args.days * c.args.states =
    ap (λ n. n * c.from-2.result) c.from.ensures ∙ ap (λ n. c.args.days * n) c.from-2.ensures in
    omega (arith, product, mul-le-mul_right c.args.states c.requires.days, mul-le-mul_left 64 c.requires.states)

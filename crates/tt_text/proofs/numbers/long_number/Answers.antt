use Rattle.std.proofs.Common.{◌∙◌, ap, Err, rules, arith}
use Rattle.tt_text.proofs.Digits.{refused_digits}
use Rattle.tt_text.proofs.numbers.long_number.Goals as goal

pub returns-then-longer-from-clause-value : goal.returns-then-longer-from-clause-value
returns-then-longer-from-clause-value c =
    let i = c.loop-digit.invariant in
    ap (λ f. Err f) c.fault_before.ensures
    ∙ refused_digits c.args.limit c.loop-digit.value c.in-Some.digit.now c.args.text.now c.loop-digit.rest.now c.in-Some.later.now
    (search rules) i.value i.digits i.some (search rules)
    (omega (arith, c.if-longer-from.true, c.from.ensures, c.from-in-Some.ensures, c.from-in-Some-2.ensures))

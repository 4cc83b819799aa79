use Rattle.std.proofs.Common.{ap, ◌∙◌, arith}
use Rattle.tt_list_laws.proofs.Sums.{one_if}
use Rattle.tt_instance.specs.Courses.{unavailable}
use Rattle.tt_moves.proofs.rest.WithoutEntry.slot_weight.Goals as goal

pub returns-clause-value : goal.returns-clause-value
returns-clause-value c = λ u rest.
    let x = c.args.entry in
    let repeats = ap one_if (c.has_repeat.ensures u rest) in
    let barred = ap one_if (c.unavailable-barred.ensures ∙ ap (λ z. unavailable z x.course x.day x.period) c.instance-instance.ensures) in
    omega (arith, repeats, barred, c.one_if.ensures, c.one_if-2.ensures, c.against.ensures.value u rest)

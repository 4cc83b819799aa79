use Rattle.std.proofs.Common.{sym, ap, ◌∙◌, rules}
use Rattle.tt_path.specs.Inner.Nested.{numbers_given}
use Rattle.tt_path.proofs.Given.{each_number, one_number, no_number}
use Rattle.tt_path.proofs.plain.cells.numbers_given.Goals as goal

pub returns-in-None : goal.returns-in-None
returns-in-None c = each_number c.args.count ∙ ap (λ o. numbers_given o c.args.count) (sym c.in-None.is)

pub returns-in-Some : goal.returns-in-Some
returns-in-Some c =
    one_number c.in-Some.number c.args.count c.if-number-count.true ∙ ap (λ o. numbers_given o c.args.count) (sym c.in-Some.is)

pub returns-in-Some-2 : goal.returns-in-Some-2
returns-in-Some-2 c =
    no_number c.in-Some-2.number c.args.count (search rules) ∙ ap (λ o. numbers_given o c.args.count) (sym c.in-Some-2.is)

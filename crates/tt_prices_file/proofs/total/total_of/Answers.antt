use Rattle.std.proofs.Common.{◌*◌, ◌^◌, length, sym, ap, subst, ◌∙◌, arith, ◌+ℤ◌, ◌-ℤ◌}
use Rattle.std.proofs.lemmas.Int.{ints}
use Rattle.tt_groups.specs.Limits.{IsWithin}
use Rattle.tt_prices_file.specs.Files.{groups_of, rents_in}
use Rattle.tt_prices_file.proofs.Totalled.{groups_within, balance_is, balance_within, has_total}
use Rattle.tt_prices_file.proofs.total.total_of.Goals as goal

pub returns-clause-total : goal.returns-clause-total
returns-clause-total c = λ h xs account.
    let p = c.args.instance.now in
    let own = c.requires.account in
    let rents = subst (IsWithin (2 ^ 64)) (sym c.from.ensures) (omega (arith, ints), omega (arith, ints, c.total.type_inv)) in
    let total = balance_is (length (groups_of p own.1) * 2 ^ 58) c.args.account.now.total c.in_ok-terms.terms c.from.result
    (groups_within p own.1 own.4) own.2.within c.in_ok-terms.ensures.small rents in
    has_total p h xs c.args.account.now c.in_ok-terms.terms _ c.total.result account
    (c.in_ok-terms.ensures.terms (groups_of p xs) (rents_in xs) account.prices account.rents) c.total.ensures
    (total ∙ ap (λ z. (c.args.account.now.total +ℤ c.in_ok-terms.terms) -ℤ z) c.from.ensures)

pub returns-clause-small : goal.returns-clause-small
returns-clause-small c =
    let p = c.args.instance.now in
    let own = c.requires.account in
    let rents = subst (IsWithin (2 ^ 64)) (sym c.from.ensures) (omega (arith, ints), omega (arith, ints, c.total.type_inv)) in
    balance_within (length (groups_of p own.1) * 2 ^ 58) c.args.account.now.total c.in_ok-terms.terms c.from.result
    (groups_within p own.1 own.4) own.2.within c.in_ok-terms.ensures.small rents

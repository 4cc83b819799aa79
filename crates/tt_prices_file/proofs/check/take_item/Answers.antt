use Rattle.std.proofs.Common.{◌++◌, ◌∷◌, [], sym, subst, arith}
use Rattle.tt_prices_text.specs.Parts.{part_of}
use Rattle.tt_prices_text.specs.declared.item.Item.{Item}
use Rattle.tt_prices_file.specs.Inner.Accounts.{IsAccountOf}
use Rattle.tt_prices_file.proofs.Underway.{on_ok}
use Rattle.tt_prices_file.proofs.check.take_item.Goals as goal

pub returns-in-Group-clause-added : goal.returns-in-Group-clause-added
returns-in-Group-clause-added c =
    let small = c.requires.header.scale in
    on_ok c.add_group.result _ _ (λ added xs account.
    subst (λ (x : Item). IsAccountOf c.args.instance.now c.args.header (xs ++ part_of x ∷ []) c.add_group.new.self) (sym c.in-Group.is)
    (added c.args.header xs (omega (arith, small)) account)) c.add_group.ensures.added

pub returns-in-Rent-clause-added : goal.returns-in-Rent-clause-added
returns-in-Rent-clause-added c =
    on_ok c.add_rent.result _ _ (λ added xs account.
    subst (λ (x : Item). IsAccountOf c.args.instance.now c.args.header (xs ++ part_of x ∷ []) c.add_rent.new.self) (sym c.in-Rent.is)
    (added c.args.header xs account)) c.add_rent.ensures.added

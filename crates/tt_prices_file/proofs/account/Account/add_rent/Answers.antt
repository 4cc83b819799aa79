use Rattle.std.proofs.Common.{refl, sym, ◌∙◌}
use Rattle.tt_prices_text.specs.Parts as parts
use Rattle.tt_prices_file.specs.Files.{rents_in}
use Rattle.tt_prices_file.proofs.Accounted.{rent_added}
use Rattle.tt_prices_file.proofs.account.Account.add_rent.Goals as goal

pub returns-clause-added : goal.returns-clause-added
returns-clause-added c = λ h xs account.
    rent_added c.args.instance.now h xs (parts.rents_of c.args.rent.now) c.args.self.now account
    (sym c.has_room.ensures ∙ c.if-has_room.false) _ refl refl
    (c.in_ok-add.ensures.table (rents_in xs) account.rents) c.in_ok-add.ensures.scale refl refl

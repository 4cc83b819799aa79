use Rattle.std.proofs.Common.{refl, sym, ◌∙◌}
use Rattle.tt_prices_file.proofs.Accounted.{no_parts}
use Rattle.tt_prices_file.proofs.account.Account.new.Goals as goal

pub returns : goal.returns
returns c = λ h scale.
    no_parts c.args.instance.now h _ c.new.ensures.curricula c.new.ensures.courses c.in_ok-new.ensures c.in_ok-new-2.ensures.table
    (c.in_ok-new-2.ensures.scale ∙ sym scale) refl refl

use Rattle.std.proofs.Common.{not, ◌&&◌, sym, ap, ◌∙◌}
use Rattle.tt_leaf_rules.specs.Inner.NumberSet.{are_new}
use Rattle.tt_leaf_rules.proofs.Meeting.{new_then}
use Rattle.tt_leaf_rules.proofs.number_set.NumberSet.insert.Goals as goal

pub returns : goal.returns
returns c = λ behind.
    new_then c.args.self.now c.add.new.self c.args.number behind c.add.ensures
    ∙ ap (λ b. not b && are_new c.add.new.self behind) (sym c.has-is_new.ensures)

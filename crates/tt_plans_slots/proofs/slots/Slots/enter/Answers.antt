use Rattle.tt_plans_slots.proofs.Changes.{keeps-raised}
use Rattle.tt_plans_slots.proofs.slots.Slots.enter.Goals as goal

pub returns-clause-most : goal.returns-clause-most
returns-clause-most c =
    keeps-raised c.args.self.now c.put.new.self c.args.course c.args.slot (c.has_spare.ensures.0 c.if-not-has_spare.false)
    c.put.ensures.most

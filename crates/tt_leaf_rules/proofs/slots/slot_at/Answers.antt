use Rattle.std.proofs.Common.{◌/◌, ◌%◌}
use Rattle.tt_instance.specs.Cells.{slot}
use Rattle.tt_instance.proofs.Slots.{slot_of_place, day_of_place}
use Rattle.tt_leaf_rules.proofs.slots.slot_at.Goals as goal

pub returns-clause-value : goal.returns-clause-value
returns-clause-value c =
    let n = c.periods-periods.result in
    slot_of_place c.args.instance.now n c.args.place (slot (c.args.place / n) (c.args.place % n)) c.periods-periods.ensures.value
    c.periods-periods.ensures.positive c.requires

pub returns-clause-day : goal.returns-clause-day
returns-clause-day c =
    day_of_place c.args.instance.now c.periods-periods.result c.args.place c.periods-periods.ensures.value
    c.periods-periods.ensures.positive c.requires

use Rattle.tt_path_pins.proofs.Shown.{pins_both}
use Rattle.tt_path_pins.proofs.adding.pin.Goals as goal

pub returns-clause-ok : goal.returns-clause-ok
returns-clause-ok c =
    pins_both c.args.instance.now c.args.fact.now c.args.table.now.words c.pin_period.new.table.words c.pin_room.new.table.words
    c.if-not-fact.false c.in_ok-pin_period.ensures.ok c.in_ok-pin_room.ensures.ok

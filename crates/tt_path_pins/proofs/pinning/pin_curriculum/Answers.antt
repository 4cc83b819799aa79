use Rattle.tt_path_pins.proofs.Pinned.{curriculum_pins}
use Rattle.tt_path_pins.proofs.pinning.pin_curriculum.Goals as goal

pub returns-clause-ok : goal.returns-clause-ok
returns-clause-ok c =
    let a = c.args in
    curriculum_pins a.instance.now a.day a.period c.requires.day c.requires.period a.table.now.words c.pin_one.new.table.words
    a.curriculum c.requires.curriculum c.in_ok-pin_one.ensures.ok

use Rattle.std.proofs.Common.{arith}
use Rattle.tt_path_pins.proofs.Grid.{day_within}
use Rattle.tt_path_pins.proofs.places.day_place.Goals as goal

pub returns-clause-within : goal.returns-clause-within
returns-clause-within c =
    let p = c.args.instance.now in
    rw c.days-days.ensures.value (day_within p c.row_of.result c.args.day c.row_of.ensures.within c.requires.day)

pub returns-clause-inside : goal.returns-clause-inside
returns-clause-inside c =
    let p = c.args.instance.now in
    let h = day_within p c.row_of.result c.args.day c.row_of.ensures.within c.requires.day in
    rw c.days-days.ensures.value (omega (arith, h))

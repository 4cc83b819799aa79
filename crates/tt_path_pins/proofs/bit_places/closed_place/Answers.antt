use Rattle.std.proofs.Common.{◌<◌, ◌+◌, ◌*◌, ◌/◌, arith}
use Rattle.tt_path_pins.specs.Inner.Tables.{width}
use Rattle.tt_path_pins.specs.Inner.FactTable.{open_size, slot_rows}
use Rattle.tt_path_pins.proofs.Grid.{room_within}
use Rattle.tt_path_pins.proofs.bit_places.closed_place.Goals as goal
use Rattle.tt_list_laws.proofs.Grid.{within_row}

pub returns-clause-within : goal.returns-clause-within
returns-clause-within c =
    let p = c.args.instance.now in
    let a = c.args in
    let row = c.open_place.result * p.periods + a.period in
    let h : row < slot_rows p = within_row c.open_place.result p.periods a.period
    (open_size p) c.open_place.ensures.within c.requires.period in
    let k : row * width p + a.room / 64 < slot_rows p * width p = within_row row (width p) (a.room / 64) (slot_rows p) h
    (room_within p a.room c.requires.room) in
    rw (c.open_size-unroomed.ensures.value, c.periods-periods.ensures.value, c.rooms.ensures.value) (omega (arith, k))

use Rattle.std.proofs.Common.{◌%◌}
use Rattle.tt_path_pins.specs.Inner.Tables.{room_place}
use Rattle.tt_path_pins.proofs.Joined.{puts_adds}
use Rattle.tt_path_pins.proofs.Pinned.{room_pins}
use Rattle.tt_path_pins.proofs.pinning.pin_room_of.Goals as goal

pub returns-clause-ok : goal.returns-clause-ok
returns-clause-ok c =
    let a = c.args in
    let p = a.instance.now in
    let old = a.table.now.words in
    let new = c.put.new.table.words in
    room_pins p old new a.course a.room c.requires.room
    (puts_adds old new (room_place p a.course a.room) (a.room % 64) (rw c.room_place.ensures.value at c.in_ok-put.ensures.ok))

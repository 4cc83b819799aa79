use Rattle.tt_path_tables.proofs.Dropping.{rooms_removed}
use Rattle.tt_path_tables.proofs.removing.remove_rooms.Goals as goal

pub returns-clause-ok : goal.returns-clause-ok
returns-clause-ok c =
    let a = c.args in
    let spot = a.spot in
    let q = c.requires.spot.slot in
    rooms_removed a.instance.now a.table.now.words spot.course spot.slot.day spot.slot.period q.day q.period spot.room
    c.drop_rooms.new.table.words c.requires.table c.in_ok-drop_rooms.ensures.ok

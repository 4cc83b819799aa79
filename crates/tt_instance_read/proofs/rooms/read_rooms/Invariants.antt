use Rattle.std.proofs.Common.{◌≡◌, ◌-◌, []}
use Rattle.tt_instance_read.specs.Reading.{rooms_at}
use Rattle.tt_instance.specs.Seen.{rooms_seen}
use Rattle.tt_instance_read.specs.Inner.Named.{AreRoomsNamed}
use Rattle.tt_instance_read.proofs.rooms.read_rooms.Given as goal

abbrev pub invariant-loop : goal.invariant-loop
invariant-loop l = record {
  read : rooms_at l.end (l.count - l.counter) (rooms_seen l.list.rows.items) l.tokens ≡ rooms_at l.end l.count [] l.fn.tokens;
  indexed : AreRoomsNamed l.list;
}

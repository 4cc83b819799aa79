use Rattle.std.proofs.Common.{◌≡◌, ℕ, take}
use Rattle.std.specs.List.{list_all}
use Rattle.tt_path_tables.specs.Inner.Rooms.{has_room}
use Rattle.tt_path_tables.specs.Inner.Struck.{is_lost_to}
use Rattle.tt_path_tables.proofs.killing.lost_rooms.Given as goal

abbrev pub invariant-loop-other : goal.invariant-loop-other
invariant-loop-other l = (r : ℕ) → has_room l.lost r ≡ list_all
    (is_lost_to l.basis.instance.now l.basis.free.now.words l.demand.pattern.now l.slot.day l.slot.period l.course r)
    (take l.other-index l.demand.courses.now)

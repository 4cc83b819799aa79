-- Sets of rooms: no room, one room or all rooms.
use Rattle.std.specs.Prelude.{ℕ, ◌==◌, Bool, true, false}
use Rattle.tt_path_tables.specs.declared.rooms.Rooms.{Rooms}
use Rattle.tt_path_tables.specs.declared.rooms.Rooms.TheVariants.{All, One, Nothing}

-- The set has the room.
abbrev pub has_room : Rooms → ℕ → Bool
has_room All r = true
has_room (One k) r = k == r
has_room Nothing r = false

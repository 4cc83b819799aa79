-- Which marks a lecture has. Isolated lectures and students without a seat are those of the counts (`is_isolated`, `excess`), like
-- lectures in an unavailable period (`unavailable`).
use Rattle.std.specs.Prelude.{Bool, false, not, ◌&&◌, nat_lt, ◌==◌, List, [], ◌∷◌, count_by, filter}
use Rattle.std.specs.List.{list_any}
use Rattle.tt_instance.specs.Problem.{Problem}
use Rattle.tt_instance.specs.Cells.{slot_of, is_of, is_at}
use Rattle.tt_instance.specs.declared.cell.Cell.{Cell}
use Rattle.tt_rules.specs.Hard.{collide, entries_in}

-- Some entry collides with it.
abbrev pub in_conflict : Problem → List Cell → Cell → Bool
in_conflict p t e = list_any (λ x. collide p x e) t

-- Its room has more than one entry in its period.
abbrev pub room_taken : List Cell → Cell → Bool
room_taken t e = nat_lt 1 (entries_in t e.room (slot_of e))

-- Its course has more than one entry in its period.
abbrev pub repeated : List Cell → Cell → Bool
repeated t e = nat_lt 1 (count_by (λ x. is_of e.course x && is_at (slot_of e) x) t)

-- The first of some entries is in another room.
abbrev pub begins_elsewhere : List Cell → Cell → Bool
begins_elsewhere [] e = false
begins_elsewhere (x ∷ xs) e = not (x.room == e.room)

-- Its course's first entry is in another room.
abbrev pub in_other_room : List Cell → Cell → Bool
in_other_room t e = begins_elsewhere (filter (is_of e.course) t) e

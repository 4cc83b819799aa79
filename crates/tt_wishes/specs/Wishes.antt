-- Which wishes a timetable keeps.
use Rattle.std.specs.Prelude.{ℕ, Bool, not, ◌&&◌, ◌||◌, List, count_by}
use Rattle.std.specs.List.{list_any, list_all}
use Rattle.tt_list_laws.specs.Words.{has_number}
use Rattle.tt_instance.specs.Cells.{is_of}
use Rattle.tt_instance.specs.declared.cell.Cell.{Cell}
use Rattle.tt_path.specs.Facts.{agrees}
use Rattle.tt_wishes.specs.declared.wish.Place.{Place}
use Rattle.tt_wishes.specs.declared.wish.Wish.{Wish}
use Rattle.tt_wishes.specs.declared.wish.Wish.TheVariants.{Hold, Rooms, Closed}

-- The entry's room, day and period are those of the place; one that is free agrees with every number.
abbrev pub is_there : Place → Cell → Bool
is_there g e = agrees g.room e.room && agrees g.day e.day && agrees g.period e.period

-- Some lecture of the course is there.
abbrev pub is_held : List Cell → ℕ → Place → Bool
is_held t c g = list_any (λ e. is_of c e && is_there g e) t

-- Each lecture of the course is in one of these rooms.
abbrev pub is_only_in : List Cell → ℕ → List ℕ → Bool
is_only_in t c rooms = list_all (λ e. not (is_of c e) || has_number rooms e.room) t

-- No lecture is there.
abbrev pub is_empty : List Cell → Place → Bool
is_empty t g = not (list_any (is_there g) t)

-- Whether the timetable keeps the wish.
abbrev pub is_kept : List Cell → Wish → Bool
is_kept t (Hold c g) = is_held t c g
is_kept t (Rooms c rooms) = is_only_in t c rooms
is_kept t (Closed g) = is_empty t g

-- The number of wishes that the timetable breaks.
abbrev pub broken_wishes : List Cell → List Wish → ℕ
broken_wishes t ws = count_by (λ w. not (is_kept t w)) ws

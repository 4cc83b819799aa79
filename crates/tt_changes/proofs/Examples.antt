-- Changes of small timetables, as the definitions count them.
use Rattle.std.proofs.Common.{◌≡◌, ℕ, List, [], ◌∷◌, refl}
use Rattle.tt_instance.specs.declared.cell.Cell.{Cell}
use Rattle.tt_instance.proofs.Examples.{at, tour}
use Rattle.tt_changes.specs.Counts.{moved_count, rooms_count}

-- the two counts from an older timetable of one course to a newer one
abbrev counts : List Cell → List Cell → List ℕ
counts old new = moved_count tour old new ∷ rooms_count tour old new ∷ []

-- in room A on three days
abbrev week : List Cell
week = at 0 0 0 0 ∷ at 0 0 1 0 ∷ at 0 0 2 0 ∷ []

nothing : counts week week ≡ 0 ∷ 0 ∷ []
nothing = refl

-- another order is no change
turned : counts week (at 0 0 2 0 ∷ at 0 0 0 0 ∷ at 0 0 1 0 ∷ []) ≡ 0 ∷ 0 ∷ []
turned = refl

-- in room B on one day
another_room : counts week (at 0 1 0 0 ∷ at 0 0 1 0 ∷ at 0 0 2 0 ∷ []) ≡ 0 ∷ 1 ∷ []
another_room = refl

-- two lectures change their days with each other: each period has one as before
exchanged : counts (at 0 0 0 0 ∷ at 0 1 1 0 ∷ []) (at 0 0 1 0 ∷ at 0 1 0 0 ∷ []) ≡ 0 ∷ 2 ∷ []
exchanged = refl

-- two lectures of the older timetable were on one day, which it must not have; one of them left it
apart_again : counts (at 0 0 0 0 ∷ at 0 1 0 0 ∷ at 0 0 2 0 ∷ []) week ≡ 1 ∷ 0 ∷ []
apart_again = refl

-- whichever of the two leaves the day, the other one keeps its room if it can
other_room_left : counts (at 0 0 0 0 ∷ at 0 1 0 0 ∷ []) (at 0 1 0 0 ∷ at 0 0 1 0 ∷ []) ≡ 1 ∷ 0 ∷ []
other_room_left = refl

-- a lecture that the older timetable lacks is no move, and neither is one that the newer one lacks
added : counts (at 0 0 0 0 ∷ []) week ≡ 0 ∷ 0 ∷ []
added = refl

gone : counts week (at 0 0 2 0 ∷ []) ≡ 0 ∷ 0 ∷ []
gone = refl

-- Chains of small timetables.
use Rattle.std.proofs.Common.{◌≡◌, true, false, List, [], ◌∷◌, refl, codes}
use Rattle.tt_list_laws.specs.Words.{has_number}
use Rattle.tt_instance.specs.Problem.{Problem}
use Rattle.tt_instance.specs.Cells.{slot}
use Rattle.tt_instance.specs.Courses.{unavailable}
use Rattle.tt_instance.specs.declared.cell.Cell.{Cell}
use Rattle.tt_instance.proofs.Examples.{at, unavailability, course, week, two_rooms, mini}
use Rattle.tt_moves_chain.specs.Chains.{linked, swapped}

abbrev together : List Cell
together = at 0 0 0 0 ∷ at 1 0 0 1 ∷ []

-- ---- chains between the first and the second period

-- one room links the two entries, and so does the curriculum
both_move : linked mini (slot 0 0) (slot 0 1) (at 0 0 0 0) (at 1 0 0 1) ≡ true
both_move = refl

swapped_both : swapped (slot 0 0) (slot 0 1) (has_number (0 ∷ 1 ∷ [])) together ≡ at 0 0 0 1 ∷ at 1 0 0 0 ∷ []
swapped_both = refl

-- if b is unavailable in the first period, it can't move there
b_is_barred : unavailable (record mini { unavailabilities = unavailability 1 0 0 ∷ [] }) 1 0 0 ≡ true
b_is_barred = refl

-- two courses without a teacher or a curriculum in common
abbrev free : Problem
free = week 1 2 (course (codes "x") (codes "t1") 1 1 1 ∷ course (codes "y") (codes "t2") 1 1 1 ∷ []) two_rooms []

one_room_links : linked free (slot 0 0) (slot 0 1) (at 0 0 0 0) (at 1 0 0 1) ≡ true
one_room_links = refl

two_rooms_do_not : linked free (slot 0 0) (slot 0 1) (at 0 0 0 0) (at 1 1 0 1) ≡ false
two_rooms_do_not = refl

swapped_alone : swapped (slot 0 0) (slot 0 1) (has_number (0 ∷ [])) (at 0 0 0 0 ∷ at 1 1 0 1 ∷ []) ≡ at 0 0 0 1 ∷ at 1 1 0 1 ∷ []
swapped_alone = refl

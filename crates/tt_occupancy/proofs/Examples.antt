-- Timetables after a move and after an exchange.
use Rattle.std.proofs.Common.{◌≡◌, List, [], ◌∷◌, refl}
use Rattle.tt_instance.specs.declared.cell.Cell.{Cell}
use Rattle.tt_instance.proofs.Examples.{at}
use Rattle.tt_occupancy.specs.Filled.{moved, swapped}

abbrev two : List Cell
two = at 0 0 0 0 ∷ at 1 1 0 2 ∷ []

second_moved : moved two 1 0 3 4 ≡ at 0 0 0 0 ∷ at 1 0 3 4 ∷ []
second_moved = refl

exchanged : swapped two 0 1 ≡ at 0 1 0 2 ∷ at 1 0 0 0 ∷ []
exchanged = refl

with_itself : swapped two 1 1 ≡ two
with_itself = refl

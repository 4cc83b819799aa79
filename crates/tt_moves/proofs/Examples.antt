-- Steps of a small timetable.
use Rattle.std.proofs.Common.{◌≡◌, List, [], ◌∷◌, refl}
use Rattle.tt_instance.specs.declared.cell.Cell.{Cell}
use Rattle.tt_instance.proofs.Examples.{at}
use Rattle.tt_moves.specs.Steps.{stepped}
use Rattle.tt_moves.specs.declared.step.Step.TheVariants.{Move, Swap}

abbrev together : List Cell
together = at 0 0 0 0 ∷ at 1 0 0 1 ∷ []

moved : stepped (at 0 0 0 0 ∷ at 1 0 0 2 ∷ []) (Move 1 0 0 1) ≡ together
moved = refl

exchanged : stepped together (Swap 0 1) ≡ at 0 0 0 1 ∷ at 1 0 0 0 ∷ []
exchanged = refl

exchanged_with_itself : stepped together (Swap 0 0) ≡ together
exchanged_with_itself = refl

-- What a refusal says about the files.
use Rattle.std.proofs.Common.{◌≡◌, ℕ, List, Option, Some, None}
use Rattle.tt_instance.specs.Problem.{Problem}
use Rattle.tt_instance.specs.Spelling.{Spells}
use Rattle.tt_instance.specs.declared.cell.Cell.{Cell}
use Rattle.tt_table.specs.Reading.{solution_of, Fails as FailsSolutionText}
use Rattle.tt_table.specs.Spelling.{SpellsBoth}
use Rattle.tt_table.specs.declared.fault.SolutionFault.{SolutionFault}
use Rattle.tt_table.specs.declared.fault.SolutionFault.TheVariants as solution
use Rattle.tt_wishes.specs.declared.fault.WishesFault.{WishesFault}
use Rattle.tt_wishes.specs.declared.fault.WishesFault.TheVariants as wishes
use Rattle.tt_call_wishes.specs.Wished.{fault_from_solution, fault_from_wishes}
use Rattle.tt_call_texts.specs.Counts.{FailsGiven, IsCountsRefusal}

-- an error of the solution is reported
pub tells_solution : (i s : List ℕ) (w : Option (List ℕ)) (p : Problem) (f : SolutionFault) → Spells i p
    → FailsSolutionText f (solution_of p s)
    → IsCountsRefusal i s w (fault_from_solution f)
tells_solution i s w p solution.OutOfMemory spelled h = tt
tells_solution i s w p f spelled h = record { problem = p; spelled = spelled; fails = h }

-- an error of the wishes is reported
pub tells_wishes : (i s : List ℕ) (w : Option (List ℕ)) (p : Problem) (t : List Cell) (f : WishesFault) → SpellsBoth i s p t
    → FailsGiven p w f
    → IsCountsRefusal i s w (fault_from_wishes f)
tells_wishes i s None p t f both h = absurd h
tells_wishes i s (Some bytes) p t wishes.OutOfMemory both h = tt
tells_wishes i s (Some bytes) p t f both h = record { problem = p; table = t; both = both; fails = h }

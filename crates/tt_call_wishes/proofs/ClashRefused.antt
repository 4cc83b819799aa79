-- What a refusal says about the files.
use Rattle.std.proofs.Common.{ℕ, List}
use Rattle.tt_instance.specs.Problem.{Problem}
use Rattle.tt_instance.specs.Spelling.{Spells}
use Rattle.tt_wishes.specs.Reading.{wishes_of, Fails}
use Rattle.tt_wishes.specs.declared.fault.WishesFault.{WishesFault}
use Rattle.tt_wishes.specs.declared.fault.WishesFault.TheVariants as wishes
use Rattle.tt_call_wishes.specs.Wished.{fault_from_wishes}
use Rattle.tt_call_wishes.specs.Clashing.{IsClashRefusal}

-- an error of the wishes is reported
pub tells_wishes : (i w : List ℕ) (p : Problem) (f : WishesFault) → Spells i p → Fails f (wishes_of p w)
    → IsClashRefusal i w (fault_from_wishes f)
tells_wishes i w p wishes.OutOfMemory spelled h = tt
tells_wishes i w p f spelled h = record { problem = p; spelled = spelled; fails = h }

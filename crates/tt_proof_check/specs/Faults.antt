-- What becomes of a fault of the reader of proofs.
use Rattle.std.specs.Prelude.{◌≡◌, ⊤}
use Rattle.tt_text.specs.declared.feed.FeedFault.TheVariants as feed
use Rattle.tt_text.specs.declared.stop.Stop.{Stop}
use Rattle.tt_text.specs.declared.stop.Stop.TheVariants.{Fault, ReadFailed, OutOfMemory}
use Rattle.tt_proof_read.specs.declared.fault.TextFault.{TextFault}
use Rattle.tt_proof_read.specs.declared.fault.TextFault.TheVariants as text
use Rattle.tt_proof_check.specs.declared.fault.CheckFault.{CheckFault}
use Rattle.tt_proof_check.specs.declared.fault.CheckFault.TheVariants.{Text, Rule, TooDeep}

-- Why a check is stopped by a fault of the reader of proofs.
abbrev pub stop_from_text : TextFault → Stop CheckFault
stop_from_text text.OutOfMemory = OutOfMemory
stop_from_text (text.Feed feed.OutOfMemory) = OutOfMemory
stop_from_text (text.Feed feed.Read) = ReadFailed
stop_from_text f = Fault (Text f)

-- The fault holds no fault of memory or of a failed read: these would have stopped the check.
abbrev pub HoldsNoStop : CheckFault → Type 0
HoldsNoStop (Text f) = stop_from_text f ≡ Fault (Text f)
HoldsNoStop (Rule i f) = ⊤
HoldsNoStop (TooDeep i) = ⊤

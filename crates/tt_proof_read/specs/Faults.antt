-- What a fault says about the text, and what a result says about it.
use Rattle.std.specs.Prelude.{◌≡◌, Bool, true, false, Result, IfErr}
use Rattle.tt_text.specs.Reading.{AgreesUnless}
use Rattle.tt_text.specs.declared.feed.FeedFault.{FeedFault}
use Rattle.tt_text.specs.declared.feed.FeedFault.TheVariants as feed
use Rattle.tt_proof_read.specs.declared.fault.TextFault.{TextFault}
use Rattle.tt_proof_read.specs.declared.fault.TextFault.TheVariants as fault

-- The fault of the text for a fault of the feed.
abbrev pub fault_from_feed : FeedFault → TextFault
fault_from_feed feed.OutOfMemory = fault.OutOfMemory
fault_from_feed f = fault.Feed f

-- A failed read says nothing about the bytes, and neither does being out of memory.
abbrev pub is_environmental : TextFault → Bool
is_environmental fault.OutOfMemory = true
is_environmental (fault.Feed feed.Read) = true
is_environmental _ = false

-- The fault of a failed read.
abbrev pub read_failed : TextFault
read_failed = fault.Feed feed.Read

-- Whether the fault is a failed read.
abbrev pub is_failed_read : TextFault → Bool
is_failed_read (fault.Feed feed.Read) = true
is_failed_read _ = false

-- No failed read is reported.
abbrev pub ReportsNoFailedRead : {X : Type 0} → Result X TextFault → Type 0
ReportsNoFailedRead result = IfErr result (λ f. is_failed_read f ≡ false)

-- Being out of memory is not reported.
abbrev pub ReportsNoOutOfMemory : {X : Type 0} → Result X TextFault → Type 0
ReportsNoOutOfMemory result = IfErr result (λ f. ¬ (f ≡ fault.OutOfMemory))

-- The result, seen by `view`, is what the text gives, except for silent faults.
abbrev pub Gives : {X Y : Type 0} → (X → Y) → Result X TextFault → Result Y TextFault → Type 0
Gives view result read = AgreesUnless is_environmental view result read

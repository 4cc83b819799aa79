-- The facts about a proof that are known after a failed read.
use Rattle.std.specs.Prelude.{◌≡◌, ℕ, true, is_some, List, [], Option, Some}
use Rattle.std.specs.Io.KnownBytes.{Consumes}
use Rattle.tt_text.specs.CutShort.{cut_short, rest_of, cut_at, MayFail}
use Rattle.tt_text.specs.Feeds.{Stream, Fed}
use Rattle.tt_instance.specs.Problem.{Problem}
use Rattle.tt_instance.specs.Spelling.{Spells}
use Rattle.tt_path.specs.declared.facts.Fact.{Fact}
use Rattle.tt_proof_read.specs.Faults.{read_failed}
use Rattle.tt_proof_check.specs.Streams.{stream_of, IsProofFault}
use Rattle.tt_proof_check.specs.declared.fault.CheckFault.TheVariants.{Text}

-- All of the stream has been read and checked, up to the failure at its end, which is its first fault.
abbrev pub IsCutOff : Problem → List Fact → Stream → Type 0
IsCutOff p root s = IsProofFault p root s (Text read_failed)

-- The source gave some of the bytes before the read failed, and the others are left. P holds for the stream that a feed gives for these bytes.
abbrev pub HoldsOfGiven : List ℕ → Option (List ℕ) → (Stream → Type 0) → Type 0
HoldsOfGiven bytes left P = (given : List ℕ) × Consumes (Some bytes) left given × P (cut_short (stream_of given))

-- All the bytes that the source gave have been read and checked.
abbrev pub IsCheckedUpToFailedRead : Problem → List Fact → List ℕ → Option (List ℕ) → Type 0
IsCheckedUpToFailedRead p root bytes left = HoldsOfGiven bytes left (IsCutOff p root)

-- The bytes spell an instance, and all the bytes that the source gave have been read and checked for it.
pub record IsSpelledAndCheckedUpToFailedRead (instance proof : List ℕ) (left : Option (List ℕ)) : Type 0 where
  pub problem : Problem
  pub spelled : Spells instance problem
  pub explains : IsCheckedUpToFailedRead problem [] proof left

-- P holds for the stream that a feed gives, if the read fails before the bytes that are left now
abbrev pub UpToFailure : Fed → Option (List ℕ) → Option (List ℕ) → (Stream → Type 0) → Type 0
UpToFailure fed before after P = is_some before ≡ true → MayFail (rest_of after) fed before × P (cut_at (rest_of after) fed before)

-- P holds for the streams that the old and the new feed give, for any later position at which a read fails
abbrev pub BeforeFailure : Fed → Option (List ℕ) → Fed → Option (List ℕ) → (Stream → Stream → Type 0) → Type 0
BeforeFailure old before new after P =
    is_some before ≡ true → (rest : List ℕ) → MayFail rest new after → MayFail rest old before × P (cut_at rest old before) (cut_at rest new after)

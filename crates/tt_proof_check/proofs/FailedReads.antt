-- The information about the bytes that remains after a failed read.
use Rattle.std.proofs.Common.{◌≡◌, ℕ, List, ◌++◌, true, Option, Some, None, is_some, refl, sym, ap, subst, ◌∙◌}
use Rattle.std.specs.Io.KnownBytes.{Consumes}
use Rattle.tt_text.specs.CutShort.{rest_of}
use Rattle.tt_text.specs.Feeds.{Stream, fresh}
use Rattle.tt_text.proofs.Cutting.{cut_is}
use Rattle.tt_proof_check.specs.FailedReads.{HoldsOfGiven, UpToFailure}

-- the bytes that were given, and those that are left
given_left : (bytes given : List ℕ) (after : Option (List ℕ)) → is_some after ≡ true → Some bytes ≡ Some (given ++ rest_of after)
    → Consumes (Some bytes) after given
given_left bytes given None k e = absurd cc
given_left bytes given (Some rest) k e = cc

-- a property of a feed that had read nothing before is a property of the bytes
pub of_given : (P : Stream → Type 0) (before after : Option (List ℕ)) → (is_some before ≡ true → is_some after ≡ true)
    → UpToFailure fresh before after P → (bytes : List ℕ) → before ≡ Some bytes → HoldsOfGiven bytes after P
of_given P before after known up bytes e =
    let k : is_some before ≡ true = ap is_some e in
    let h = up k in
    let given = h.0.given in (
      given,
      given_left bytes given after (known k) (sym e ∙ h.0.bytes),
      subst P (cut_is (rest_of after) fresh before given refl refl h.0.bytes) h.1,
    )

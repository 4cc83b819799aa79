-- What becomes of the faults of the reader of proofs.
use Rattle.std.proofs.Common.{◌≡◌, Bool, true, false, if◌then◌else◌, Result, Ok, Err, refl, sym, ap, subst, ◌∙◌, ◌⊎◌, inl, inr}
use Rattle.std.specs.Prelude.{IsErrAnd}
use Rattle.std.specs.Bool.{OnFalse}
use Rattle.tt_text.specs.Failures.{is_err_and}
use Rattle.tt_text.specs.Reading.{FailsUnless}
use Rattle.tt_text.specs.declared.feed.FeedFault.TheVariants as feed
use Rattle.tt_text.specs.Stops.{OnFault, is_failed_read}
use Rattle.tt_text.specs.declared.stop.Stop.{Stop}
use Rattle.tt_text.specs.declared.stop.Stop.TheVariants.{Fault, ReadFailed, OutOfMemory}
use Rattle.tt_proof_read.specs.Faults as read
use Rattle.tt_proof_read.specs.Faults.{is_environmental, read_failed}
use Rattle.tt_proof_read.specs.declared.fault.TextFault.{TextFault}
use Rattle.tt_proof_read.specs.declared.fault.TextFault.TheVariants as text
use Rattle.tt_proof_check.specs.declared.fault.CheckFault.{CheckFault}
use Rattle.tt_proof_check.specs.declared.fault.CheckFault.TheVariants as reported
use Rattle.tt_proof_check.specs.Faults.{stop_from_text, HoldsNoStop}

-- a fault of the reader is one of memory, a failed read or a fault of the text
pub stop_cases : (f : TextFault) (Q : Stop CheckFault → Type 0) → Q OutOfMemory → (f ≡ read_failed → Q ReadFailed)
    → (is_environmental f ≡ false → HoldsNoStop (reported.Text f) → Q (Fault (reported.Text f))) → Q (stop_from_text f)
stop_cases (text.Ended at) Q a r b = b refl refl
stop_cases (text.Expected w at) Q a r b = b refl refl
stop_cases (text.UnknownWord at) Q a r b = b refl refl
stop_cases (text.NotANumber at) Q a r b = b refl refl
stop_cases (text.UnknownIndex at) Q a r b = b refl refl
stop_cases (text.RepeatedIndex at) Q a r b = b refl refl
stop_cases (text.TrailingToken at) Q a r b = b refl refl
stop_cases (text.TooManyNodes at) Q a r b = b refl refl
stop_cases (text.Feed feed.Read) Q a r b = r refl
stop_cases (text.Feed (feed.TokenTooLong at)) Q a r b = b refl refl
stop_cases (text.Feed feed.TooManyBytes) Q a r b = b refl refl
stop_cases (text.Feed feed.OutOfMemory) Q a r b = a
stop_cases text.OutOfMemory Q a r b = a

-- a property of the fault that the check reports
pub text_reported : (s : Stop CheckFault) (f : TextFault) (P : CheckFault → Type 0) → s ≡ stop_from_text f
    → (is_environmental f ≡ false → P (reported.Text f)) → OnFault s P
text_reported s f P e h =
    subst (λ (x : Stop CheckFault). OnFault x P) (sym e) (stop_cases f (λ x. OnFault x P) tt (λ failed. tt) (λ calm kept. h calm))

-- the fault that the check reports holds none of memory or of a failed read
pub text_lower : (s : Stop CheckFault) (f : TextFault) → s ≡ stop_from_text f → OnFault s HoldsNoStop
text_lower s f e =
    subst (λ (x : Stop CheckFault). OnFault x HoldsNoStop) (sym e)
    (stop_cases f (λ x. OnFault x HoldsNoStop) tt (λ failed. tt) (λ calm kept. kept))

read_of : (f : TextFault) → stop_from_text f ≡ ReadFailed → f ≡ read_failed
read_of text.OutOfMemory e = cc
read_of (text.Feed feed.Read) e = refl
read_of (text.Feed feed.OutOfMemory) e = cc
read_of f e = cc

-- only a failed read is reported as one
pub text_read : (s : Stop CheckFault) (f : TextFault) → s ≡ stop_from_text f → s ≡ ReadFailed → f ≡ read_failed
text_read s f e is = read_of f (sym e ∙ is)

reads_of : (f : TextFault) → is_failed_read (stop_from_text f) ≡ read.is_failed_read f
reads_of text.OutOfMemory = refl
reads_of (text.Feed feed.Read) = refl
reads_of (text.Feed feed.OutOfMemory) = refl
reads_of f = refl

-- whether a read has failed, after a fault of the reader
pub text_failed : (s : Stop CheckFault) (f : TextFault) (before middle after : Bool) → s ≡ stop_from_text f
    → after ≡ (if read.is_failed_read f then true else middle) → middle ≡ before
    → after ≡ (if is_failed_read s then true else before)
text_failed s f before middle after e h same =
    let is : read.is_failed_read f ≡ is_failed_read s = sym (reads_of f) ∙ ap (λ (x : Stop CheckFault). is_failed_read x) (sym e) in
    h ∙ ap (λ (b : Bool). if read.is_failed_read f then true else b) same ∙ ap (λ (b : Bool). if b then true else before) is

pub on_false : (b : Bool) (P : Type 0) → OnFalse b P → (b ≡ true) ⊎ P
on_false true P h = inl refl
on_false false P h = inr h

-- a fault that isn't silent is the one that reading the text gives
pub told : {Y : Type 0} (f : TextFault) (read : Result Y TextFault) → is_environmental f ≡ false → FailsUnless is_environmental f read
    → read ≡ Err f
told f read calm h = elim (on_false (is_environmental f) (read ≡ Err f) h) [
  | inl silent ↦ absurd cc
  | inr is ↦ is
]

-- ---- errors that are passed on

-- an error that was passed on is the same error
pub err_same : {A E : Type 0} (r : Result A E) (x y : E) → IsErrAnd r (λ e. e ≡ x) → r ≡ Err y → x ≡ y
err_same (Ok a) x y e h = absurd cc
err_same (Err z) x y e h = let same : z ≡ y = cc in sym e ∙ same

-- whether a read has failed, after an error that was passed on
pub same_reads : {A E : Type 0} (r : Result A E) (f : E) (passes : E → Bool) (before middle after : Bool) → IsErrAnd r (λ e. e ≡ f)
    → after ≡ (if passes f then true else middle) → middle ≡ before
    → after ≡ (if is_err_and r passes then true else before)
same_reads (Ok x) f passes before middle after e h same = absurd e
same_reads (Err x) f passes before middle after e h same = h ∙ ap (λ (b : Bool). if passes f then true else b) same
    ∙ ap (λ y. if passes y then true else before) (sym e)

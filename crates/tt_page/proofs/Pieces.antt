-- The pieces of a text in turn are the text.
use Rattle.std.proofs.Common.{◌≡◌, ℕ, ◌+◌, ◌<◌, ◌≤◌, List, ◌++◌, take, drop, length, sym, ap, subst, ◌∙◌, append_assoc, arith, length-take, length-drop}
use Rattle.std.specs.Prelude.{min, Option, Some, None, Result, Ok, Err, IsErrAnd, MatchResult}
use Rattle.std.specs.Io.KnownBytes.{Appends}
use Rattle.std.proofs.lemmas.List.{drop_min, drop_all, drop-drop, take-append-drop, take_all}
use Rattle.tt_text.specs.Sinks.{TakesPart}
use Rattle.tt_text.proofs.TakenParts.{Taken, taken_more, taken_all, appends_both}
use Rattle.tt_page_text.specs.Puts.{IsTooLarge, put_text, too_many, total_of, window}
use Rattle.tt_page_text.specs.Windowed.{PageState}
use Rattle.tt_page_text.proofs.Windows.{bytes_of_all, total_some, total_none}
use Rattle.tt_page.specs.Limits.{IsWithinLimit}
use Rattle.tt_page.specs.Faults.{ExplainsSize}
use Rattle.tt_page.specs.declared.fault.PageFault.{PageFault}
use Rattle.tt_page.specs.declared.fault.PageFault.TheVariants as fault

-- the bytes behind a piece
piece_behind : (from size : ℕ) (text bytes : List ℕ) → bytes ≡ take size (drop from text) → drop (from + length bytes) text ≡ drop size
    (drop from text)
piece_behind from size text bytes is =
    let d = drop from text in
    let count : length bytes ≡ min size (length d) = ap length is ∙ length-take size d in
    sym (drop-drop (length bytes) from text) ∙ ap (λ k. drop k d) count ∙ drop_min size d

-- a piece ends within the text, and has a byte if there are any
pub piece_within : (from size : ℕ) (text bytes : List ℕ) → bytes ≡ take size (drop from text) → from ≤ length text
    → from + length bytes ≤ length text
piece_within from size text bytes is within =
    let d = drop from text in
    let count : length bytes ≡ min size (length d) = ap length is ∙ length-take size d in
    omega (arith, length-drop from text)

pub piece_further : (from size : ℕ) (text bytes : List ℕ) → bytes ≡ take size (drop from text) → 0 < size
    → from + length bytes < length text → from < from + length bytes
piece_further from size text bytes is some short =
    let d = drop from text in
    let count : length bytes ≡ min size (length d) = ap length is ∙ length-take size d in
    omega (arith, length-drop from text)

-- a piece was written
pub piece_taken : (before mid after : Option (List ℕ)) (text bytes : List ℕ) (from size : ℕ) → Taken before mid text (drop from text)
    → bytes ≡ take size (drop from text) → Appends mid after bytes → Taken before after text (drop (from + length bytes) text)
piece_taken before mid after text bytes from size part is more =
    taken_more before mid after text (drop from text) (drop (from + length bytes) text) size part (subst (Appends mid after) is more)
    (piece_behind from size text bytes is)

-- the write of a piece failed
pub piece_failed : (before mid after : Option (List ℕ)) (text bytes : List ℕ) (from size : ℕ) → Taken before mid text (drop from text)
    → bytes ≡ take size (drop from text) → TakesPart mid after bytes → TakesPart before after text
piece_failed before mid after text bytes from size part is failed =
    let d = drop from text in record {
      taken = part.taken ++ failed.taken;
      rest = failed.rest ++ drop size d;
      front = part.front
          ∙ ap (λ z. part.taken ++ z) (sym (take-append-drop size d) ∙ ap (λ z. z ++ drop size d) (sym is ∙ failed.front)
          ∙ append_assoc failed.taken failed.rest (drop size d))
          ∙ sym (append_assoc part.taken failed.taken (failed.rest ++ drop size d));
      appended = appends_both before mid after part.taken failed.taken part.appended failed.appended;
    }

-- all pieces were written
pub pieces_taken : (before after : Option (List ℕ)) (text : List ℕ) (from : ℕ) → length text ≤ from
    → Taken before after text (drop from text) → Appends before after text
pieces_taken before after text from past part = taken_all before after text (drop from text) (drop_all from text past) part

-- ---- the number of bytes of a page

-- the text of a page was put, and its number of bytes is that of the text
pub page_counted : (size n : ℕ) (text : List ℕ) (out : PageState) (total : Option ℕ) → out ≡ put_text (window 0 size too_many) text
    → total ≡ total_of out → total ≡ Some n → (n ≡ length text) × IsWithinLimit text
page_counted size n text out total put count is = total_some 0 size text n (ap total_of (sym put) ∙ sym count ∙ is)

-- the text of a page was put, and it is too large
pub page_too_large : (size : ℕ) (text : List ℕ) (out : PageState) (total : Option ℕ) → out ≡ put_text (window 0 size too_many) text
    → total ≡ total_of out → total ≡ None → IsTooLarge text
page_too_large size text out total put count is = total_none 0 size text (ap total_of (sym put) ∙ sym count ∙ is)

-- a window that is as large as the text has all of it
pub whole_text : (size : ℕ) (text : List ℕ) (out : PageState) → out ≡ put_text (window 0 size too_many) text → length text ≤ size
    → IsWithinLimit text → out.bytes ≡ text
whole_text size text out put short within =
    ap (λ (s : PageState). s.bytes) put ∙ bytes_of_all 0 size too_many text (omega arith) ∙ take_all size text short

-- a write fails only if the page is within the limit
pub size_of_write : {X : Type 0} (r : Result X PageFault) (text : List ℕ) → IsErrAnd r (λ e. e ≡ fault.Write) → IsWithinLimit text
    → MatchResult r (λ _. IsWithinLimit text) (λ f. ExplainsSize f text)
size_of_write (Ok v) text is within = within
size_of_write (Err e) text is within = subst (λ f. ExplainsSize f text) (sym is) within

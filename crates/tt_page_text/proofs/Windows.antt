-- What a window has of a text that was put.
use Rattle.std.proofs.Common.{◌≡◌, ℕ, ◌+◌, ◌-◌, ◌<◌, ◌≤◌, List, [], ◌++◌, take, drop, length, Some, None, refl, sym, ap, ◌∙◌, ⊎_elim, arith, length-take}
use Rattle.std.specs.Prelude.{min}
use Rattle.std.proofs.lemmas.List.{take_all, take_min, drop_min, take-take, drop-take}
use Rattle.std.proofs.lemmas.Bool.{eq-eqb, ne_eqb, cond-true, cond-false, cases_lt}
use Rattle.tt_page_text.specs.Puts.{IsTooLarge, put_text, too_many, total_of, window}
use Rattle.tt_page_text.specs.Windowed.{PageState}
use Rattle.tt_page_text.specs.declared.page_text.TheConstants.{MAX_PAGE_BYTES}

-- the state after a token of which the part in the window was appended
pub token_put : (s : PageState) (token taken behind seen bytes : List ℕ) (before left : ℕ)
    → taken ≡ take (min s.left (length token)) token → behind ≡ drop (min s.before (length taken)) taken
    → seen ≡ take (min (s.size - length s.bytes) (length behind)) behind → bytes ≡ s.bytes ++ seen → before ≡ s.before - length taken
    → left ≡ s.left - length taken → (let t : PageState = record { before = before; size = s.size; left = left; bytes = bytes } in t)
    ≡ put_text s token
unfolding put_text
token_put s token taken behind seen bytes before left part h k is b l =
    let whole : taken ≡ take s.left token = part ∙ take_min s.left token in
    let n = s.size - length s.bytes in
    let all : bytes ≡ s.bytes ++ take n (drop s.before (take s.left token)) =
    is ∙ ap (λ z. s.bytes ++ z) (k ∙ take_min n behind ∙ ap (take n) (h ∙ drop_min s.before taken ∙ ap (drop s.before) whole)) in
    let before_is : before ≡ s.before - length (take s.left token) = b ∙ ap (λ (z : List ℕ). s.before - length z) whole in
    let left_is : left ≡ s.left - length (take s.left token) = l ∙ ap (λ (z : List ℕ). s.left - length z) whole in
    λ i. record { before = before_is i; size = s.size; left = left_is i; bytes = all i }

bytes_put : (from size left : ℕ) (text : List ℕ) → (put_text (window from size left) text).bytes ≡ take size (drop from (take left text))
unfolding put_text
bytes_put from size left text = let all : size - 0 ≡ size = omega arith in ap (λ k. take k (drop from (take left text))) all

-- the bytes in a window, if all of the text is taken
pub bytes_of_all : (from size left : ℕ) (text : List ℕ) → length text ≤ left → (put_text (window from size left) text).bytes ≡ take size
    (drop from text)
bytes_of_all from size left text within = bytes_put from size left text ∙ ap (λ (z : List ℕ). take size (drop from z))
    (take_all left text within)

-- the bytes in a window, if the text is taken up to the window's end
pub bytes_to_end : (from size : ℕ) (text : List ℕ) → (put_text (window from size (from + size)) text).bytes ≡ take size (drop from text)
bytes_to_end from size text =
    bytes_put from size (from + size) text ∙ ap (take size) (drop-take from size text) ∙ take-take size size (drop from text) (omega arith)

-- the size of a window stays
pub size_put : (s : PageState) (text : List ℕ) → (put_text s text).size ≡ s.size
unfolding put_text
size_put s text = refl

-- the number of bytes of a text that isn't too large
total_within : (from size : ℕ) (text : List ℕ) → length text ≤ MAX_PAGE_BYTES → total_of (put_text (window from size too_many) text)
    ≡ Some (length text)
unfolding put_text
total_within from size text within =
    let taken = length-take too_many text in
    let some : ¬ (too_many - length (take too_many text) ≡ 0) = omega arith in
    let count : too_many - (too_many - length (take too_many text)) ≡ length text = omega arith in
    cond-false _ _ _ (ne_eqb (too_many - length (take too_many text)) 0 some) ∙ ap Some count

total_beyond : (from size : ℕ) (text : List ℕ) → IsTooLarge text → total_of (put_text (window from size too_many) text) ≡ None
unfolding put_text
total_beyond from size text beyond =
    let taken = length-take too_many text in
    let none : too_many - length (take too_many text) ≡ 0 = omega arith in
    cond-true _ _ _ (eq-eqb (too_many - length (take too_many text)) 0 none)

-- a number of bytes is that of the text, which isn't too large
pub total_some : (from size : ℕ) (text : List ℕ) (n : ℕ) → total_of (put_text (window from size too_many) text) ≡ Some n
    → (n ≡ length text) × (length text ≤ MAX_PAGE_BYTES)
total_some from size text n is = ⊎_elim
    (λ (beyond : IsTooLarge text). let none = total_beyond from size text beyond in cc)
    (λ within. let some = total_within from size text within in (cc, within))
    (cases_lt MAX_PAGE_BYTES (length text))

pub total_none : (from size : ℕ) (text : List ℕ) → total_of (put_text (window from size too_many) text) ≡ None → IsTooLarge text
total_none from size text is = ⊎_elim
    (λ (beyond : IsTooLarge text). beyond)
    (λ within. let some = total_within from size text within in cc)
    (cases_lt MAX_PAGE_BYTES (length text))

-- Tokens that begin with the same texts, and what a fault at one of them says about the text.
use Rattle.std.proofs.Common.{◌≡◌, ◌≢◌, ◌⊎◌, inl, inr, ℕ, suc, ◌+◌, ◌<◌, ◌≤◌, Bool, true, false, List, [], ◌∷◌, ◌++◌, take, Option, Some, Result, Ok, Err, refl, sym, ap, subst, ◌∙◌, arith}
use Rattle.std.specs.Prelude.{Any, nat_le}
use Rattle.std.specs.List.{take_while, prefix_len}
use Rattle.std.proofs.lemmas.Bool.{leb-false, cases_eq}
use Rattle.tt_text.specs.Tokens.{is_separator, in_token, Placed, tokens_from, tokens_of}
use Rattle.tt_text.proofs.Feeding.{while-yes}
use Rattle.tt_instance.specs.Beginnings.{texts_of, BeginsAs}
use Rattle.tt_instance.proofs.Shared.{NoneAt, Shared, Apart, Next, Stays, Joins, EndsAlike}

-- -- the order of tokens

-- each token begins at this offset or after it
abbrev AreFrom : ℕ → List Placed → Type 0
AreFrom n [] = Unit {0}
AreFrom n (t ∷ ts) = (n ≤ t.at) × AreFrom n ts

-- each token begins before those that follow it
abbrev pub Ascend : List Placed → Type 0
Ascend [] = Unit {0}
Ascend (t ∷ ts) = AreFrom (t.at + 1) ts × Ascend ts

-- another byte in front
from_step : (n : ℕ) (inside : Bool) (at b : ℕ) (bs : List ℕ) (v : Bool) → n ≤ at → is_separator b ≡ v
    → ((into : Bool) → AreFrom n (tokens_from into (at + 1) bs)) → AreFrom n (tokens_from inside at (b ∷ bs))
unfolding tokens_from
from_step n inside at b bs true le e more = rw e (more false)
from_step n true at b bs false le e more = rw e (more true)
from_step n false at b bs false le e more =
    let made : Placed = record { text = take (prefix_len in_token (b ∷ bs)) (b ∷ bs); at = at } in
    let first : tokens_from false at (b ∷ bs) ≡ made ∷ tokens_from true (at + 1) bs = rw e refl in
    subst (AreFrom n) (sym first) (le, more true)

-- tokens read from an offset on begin there or after it
are_from : (n : ℕ) (inside : Bool) (at : ℕ) (bytes : List ℕ) → n ≤ at → AreFrom n (tokens_from inside at bytes)
unfolding tokens_from
are_from n inside at [] le = tt
are_from n inside at (b ∷ bs) le = from_step n inside at b bs (is_separator b) le refl (λ into. are_from n into (at + 1) bs (omega arith))

-- another byte in front
ascend_step : (inside : Bool) (at b : ℕ) (bs : List ℕ) (v : Bool) → is_separator b ≡ v
    → ((into : Bool) → Ascend (tokens_from into (at + 1) bs)) → Ascend (tokens_from inside at (b ∷ bs))
unfolding tokens_from
ascend_step inside at b bs true e more = rw e (more false)
ascend_step true at b bs false e more = rw e (more true)
ascend_step false at b bs false e more =
    let made : Placed = record { text = take (prefix_len in_token (b ∷ bs)) (b ∷ bs); at = at } in
    let first : tokens_from false at (b ∷ bs) ≡ made ∷ tokens_from true (at + 1) bs = rw e refl in
    subst Ascend (sym first) (are_from (at + 1) true (at + 1) bs (omega arith), more true)

-- the tokens of a text are in ascending order
ascend : (inside : Bool) (at : ℕ) (bytes : List ℕ) → Ascend (tokens_from inside at bytes)
unfolding tokens_from
ascend inside at [] = tt
ascend inside at (b ∷ bs) = ascend_step inside at b bs (is_separator b) refl (λ into. ascend into (at + 1) bs)

-- ---- the same texts

-- no token that begins after an offset is at it
none_before : (at n : ℕ) (ts : List Placed) → at < n → AreFrom n ts → NoneAt at ts
none_before at n [] less from = tt
none_before at n (t ∷ ts) less from = ((λ e. let h = from.0 in omega (arith, e, h)), none_before at n ts less from.1)

-- the tokens up to the one at the offset
up_to : ℕ → List Placed → List Placed
up_to at ts = take_while (λ t. nat_le t.at at) ts

-- if the first tokens have the same text and the other tokens are shared, all are shared
share_first : (at : ℕ) (t : Placed) (ts us : List Placed) (texts : List (List ℕ)) → texts_of us ≡ t.text ∷ texts
    → ((vs : List Placed) → texts_of vs ≡ texts → Shared at ts vs) → Shared at (t ∷ ts) us
share_first at t ts [] texts same more = absurd cc
share_first at t ts (u ∷ us) texts same more =
    let first : u.text ≡ t.text = cc in
    let rest : texts_of us ≡ texts = cc in
    subst (λ (x : List ℕ). Shared at (t ∷ ts) (record { text = x; at = u.at } ∷ us)) (sym first) (Next u.at (more us rest))

-- two cases: the first token begins at or before the offset, or after it
share_step : (at : ℕ) (t : Placed) (ts us : List Placed) (more : List (List ℕ)) (v : Bool) → nat_le t.at at ≡ v → Ascend (t ∷ ts)
    → texts_of us ≡ texts_of (up_to at (t ∷ ts)) ++ more
    → ((vs : List Placed) → texts_of vs ≡ texts_of (up_to at ts) ++ more → Shared at ts vs) → Shared at (t ∷ ts) us
unfolding up_to
share_step at t ts us more true e asc same next =
    share_first at t ts us (texts_of (up_to at ts) ++ more)
    (same ∙ ap (λ (xs : List Placed). texts_of xs ++ more) (while-yes (λ (x : Placed). nat_le x.at at) t ts e)) next
share_step at t ts us more false e asc same next =
    let less : at < t.at = omega (arith, leb-false _ _ e) in
    Apart ((λ same. omega (arith, same, less)), none_before at (t.at + 1) ts (omega (arith, less)) asc.0)

-- tokens that have the same texts up to the offset are shared
share : (at : ℕ) (ts us : List Placed) (more : List (List ℕ)) → Ascend ts → texts_of us ≡ texts_of (up_to at ts) ++ more → Shared at ts us
share at [] us more asc same = Apart tt
share at (t ∷ ts) us more asc same = share_step at t ts us more (nat_le t.at at) refl asc same (λ vs h. share at ts vs more asc.1 h)

-- bytes with the same beginning share their tokens
pub begins_shared : (at : ℕ) (bytes other : List ℕ) → BeginsAs at bytes other → Shared at (tokens_of bytes) (tokens_of other)
unfolding up_to
begins_shared at bytes other h = share at (tokens_of bytes) (tokens_of other) h.more (ascend false 0 bytes) h.same

-- -- what a fault at a token says

-- a later token begins at the offset
pub any_later : (at : ℕ) (t : Placed) (ts : List Placed) → Any (λ x. x.at ≡ at) ts → Any (λ x. x.at ≡ at) (t ∷ ts)
any_later at t ts h = (suc h.0, h.1, omega (arith, h.2), h.3, h.4)

-- a token in front of the others: it begins at the offset, or the claim for the others holds
pub stands_step : (at : ℕ) (t : Placed) (ts : List Placed) → (t.at ≡ at) ⊎ (t.at ≢ at) → NoneAt at ts ⊎ Any (λ x. x.at ≡ at) ts
    → NoneAt at (t ∷ ts) ⊎ Any (λ x. x.at ≡ at) (t ∷ ts)
stands_step at t ts (inl e) rest = inr (0, t, omega arith, refl, e)
stands_step at t ts (inr n) (inl none) = inl (n, none)
stands_step at t ts (inr n) (inr h) = inr (any_later at t ts h)

-- either no token begins at the offset or some token does
pub stands_or_none : (at : ℕ) (ts : List Placed) → NoneAt at ts ⊎ Any (λ t. t.at ≡ at) ts
stands_or_none at [] = inl tt
stands_or_none at (t ∷ ts) = stands_step at t ts (cases_eq t.at at) (stands_or_none at ts)

-- a reader that fails, with a fault reported at the token at this offset
module _ {F A : Type 0} (offset_of : F → Option ℕ) (at : ℕ) (f g : List Placed → Result A F)
    (alike : EndsAlike offset_of at (Unit {0}) f g) (ts : List Placed) (e : F) (failed : f ts ≡ Err e)
    (is_reported : offset_of e ≡ Some at) where
  -- some token begins at the offset
  pub fault_at_token : Any (λ t. t.at ≡ at) ts
  fault_at_token = by_tokens (stands_or_none at ts)
    where
      by_tokens : NoneAt at ts ⊎ Any (λ t. t.at ≡ at) ts → Any (λ t. t.at ≡ at) ts
      by_tokens (inl none) = absurd (subst (Stays offset_of at (λ (x : A). Unit {0})) failed (alike.stays tt ts none) is_reported)
      by_tokens (inr h) = h

  -- over shared tokens the reader gives no value
  pub fault_of_all : (us : List Placed) → Shared at ts us → (x : A) → g us ≢ Ok x
  fault_of_all us shared x read =
      by_fault (subst (λ (r : Result A F). Joins offset_of at (λ (y : A). Unit {0}) (λ _ _. Unit {0}) r (g us)) failed
      (alike.joins ts us shared))
    where
      by_fault : (offset_of e ≢ Some at) ⊎ ((y : A) → g us ≢ Ok y) → ⊥
      by_fault (inl elsewhere) = elsewhere is_reported
      by_fault (inr none) = none x read

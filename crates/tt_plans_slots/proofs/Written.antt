-- Tables of rows after one row has changed.
use Rattle.std.proofs.Common.{◌≡◌, ℕ, ◌<◌, Bool, true, false, not, cond, ◌&&◌, ◌||◌, List, [], length, get_or, set, refl, sym, ap, ◌∙◌, inl, inr, eq-eqb, ne_eqb}
use Rattle.std.specs.Prelude.{◌==◌}
use Rattle.std.proofs.lemmas.Bool.{cases_eq}
use Rattle.std.proofs.lemmas.List.{get_or-set_same, get_or-set_other}

-- a row, after one was written
pub row_written : {X : Type 0} (rows : List X) (s : ℕ) (row none : X) → s < length rows → (t : ℕ)
    → get_or (set rows s row) t none ≡ cond (t == s) row (get_or rows t none)
row_written rows s row none h t = elim (cases_eq t s) [
  | inl e ↦
      ap (λ i. get_or (set rows s row) i none) e ∙ get_or-set_same rows s row none h
      ∙ sym (ap (λ b. cond b row (get_or rows t none)) (eq-eqb t s e))
  | inr n ↦ get_or-set_other rows s t row none n ∙ sym (ap (λ b. cond b row (get_or rows t none)) (ne_eqb t s n))
]

-- an element, after one element of one row was written
pub place_written : {X : Type 0} (rows : List (List X)) (s c : ℕ) (x none : X) (row : List X) → s < length rows
    → c < length (get_or rows s []) → row ≡ set (get_or rows s []) c x → (t d : ℕ)
    → get_or (get_or (set rows s row) t []) d none ≡ cond ((t == s) && (d == c)) x (get_or (get_or rows t []) d none)
place_written rows s c x none row h k is t d = elim (cases_eq t s) [
  | inl e ↦
      ap (λ i. get_or (get_or (set rows s row) i []) d none) e
      ∙ ap (λ r. get_or r d none) (get_or-set_same rows s row [] h ∙ is)
      ∙ row_written (get_or rows s []) c x none k d
      ∙ ap (λ i. cond (d == c) x (get_or (get_or rows i []) d none)) (sym e)
      ∙ sym (ap (λ b. cond (b && (d == c)) x (get_or (get_or rows t []) d none)) (eq-eqb t s e))
  | inr n ↦
      ap (λ r. get_or r d none) (get_or-set_other rows s t row [] n)
      ∙ sym (ap (λ b. cond (b && (d == c)) x (get_or (get_or rows t []) d none)) (ne_eqb t s n))
]

pub cond-or : (b y : Bool) → cond b true y ≡ (y || b)
cond-or true true = refl
cond-or true false = refl
cond-or false true = refl
cond-or false false = refl

pub cond-and_not : (b y : Bool) → cond b false y ≡ (y && not b)
cond-and_not true true = refl
cond-and_not true false = refl
cond-and_not false true = refl
cond-and_not false false = refl

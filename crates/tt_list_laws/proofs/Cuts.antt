-- Lists cut at one place, and the elements of appended lists.
use Rattle.std.proofs.Common.{◌≡◌, ℕ, zero, suc, ◌+◌, ◌<◌, List, [], ◌∷◌, ◌++◌, length, Some, refl, sym, ap, ◌∙◌, arith, inl, inr}
use Rattle.std.specs.Prelude.{◌⊎◌, slice_get, slice_set}
use Rattle.std.specs.List.{insert}

-- a cut of two appended lists is in the first or in the second
pub cut_cases : {X : Type 0} (ls rs : List X) (before : List X) (y : X) (after : List X) → ls ++ rs ≡ before ++ y ∷ after
    → ((ws : List X) × (ls ≡ before ++ y ∷ ws) × (after ≡ ws ++ rs)) ⊎ ((zs : List X) × (before ≡ ls ++ zs) × (rs ≡ zs ++ y ∷ after))
cut_cases [] rs before y after e = inr (before, refl, e)
cut_cases {X} (a ∷ ls) rs [] y after e =
    let h : a ≡ y = cc in
    let t : ls ++ rs ≡ after = cc in
    inl (ls, ap (λ z. z ∷ ls) h, sym t)
cut_cases {X} (a ∷ ls) rs (b ∷ before) y after e =
    let h : a ≡ b = cc in
    let t : ls ++ rs ≡ before ++ y ∷ after = cc in
    elim (cut_cases ls rs before y after t) [
      | inl w ↦ inl (w.0, ap (λ l. a ∷ l) w.1 ∙ ap (λ z. z ∷ (before ++ y ∷ w.0)) h, w.2)
      | inr w ↦ inr (w.0, ap (λ l. b ∷ l) w.1 ∙ ap (λ z. z ∷ (ls ++ w.0)) (sym h), w.2)
    ]

-- a list cut at place k, which has x: the elements before it and the elements after it
pub record IsCut {X : Type 0} (xs : List X) (k : ℕ) (x : X) : Type 0 where
  pub before : List X
  pub after : List X
  pub whole : xs ≡ before ++ x ∷ after
  pub place : length before ≡ k

-- a list can be cut at each of its elements
pub cut_at : {X : Type 0} (xs : List X) (k : ℕ) (x : X) → slice_get xs k ≡ Some x → IsCut xs k x
cut_at [] k x e = cc
cut_at (y ∷ ys) zero x e = let same : y ≡ x = cc in record { before = []; after = ys; whole = ap (λ z. z ∷ ys) same; place = refl }
cut_at (y ∷ ys) (suc k) x e =
    let w = cut_at ys k x e in
    record { before = y ∷ w.before; after = w.after; whole = ap (λ l. y ∷ l) w.whole; place = ap suc w.place }

-- setting the element at the cut
pub set_cut : {X : Type 0} (before : List X) (x : X) (after : List X) (y : X) → slice_set (before ++ x ∷ after) (length before) y
    ≡ before ++ y ∷ after
set_cut [] x after y = refl
set_cut (b ∷ before) x after y = ap (λ l. b ∷ l) (set_cut before x after y)

-- inserting an element after the one at the cut
pub insert_cut : {X : Type 0} (before : List X) (x : X) (after : List X) (y : X) → insert (before ++ x ∷ after) (suc (length before)) y
    ≡ before ++ x ∷ y ∷ after
insert_cut [] x after y = refl
insert_cut (b ∷ before) x after y = ap (λ l. b ∷ l) (insert_cut before x after y)

-- the element after the one at the cut
pub get_next : {X : Type 0} (before : List X) (x y : X) (after : List X) → slice_get (before ++ x ∷ y ∷ after) (suc (length before))
    ≡ Some y
get_next [] x y after = refl
get_next (b ∷ before) x y after = get_next before x y after

pub get_after : {X : Type 0} (before : List X) (x y z : X) (after : List X) → slice_get (before ++ x ∷ y ∷ z ∷ after)
    (suc (suc (length before))) ≡ Some z
get_after [] x y z after = refl
get_after (b ∷ before) x y z after = get_after before x y z after

-- ---- elements of appended lists

-- an element of two appended lists is in the first or in the second
pub at_cases : {X : Type 0} (xs ys : List X) (i : ℕ) (x : X) → slice_get (xs ++ ys) i ≡ Some x → (slice_get xs i ≡ Some x)
    ⊎ ((j : ℕ) × (i ≡ length xs + j) × (slice_get ys j ≡ Some x))
at_cases [] ys i x e = inr (i, omega arith, e)
at_cases (y ∷ xs) ys zero x e = inl e
at_cases (y ∷ xs) ys (suc i) x e = elim (at_cases xs ys i x e) [
  | inl h ↦ inl h
  | inr w ↦ inr (w.0, omega (arith, w.1), w.2)
]

-- a place of the first list has the same element in the appended lists
pub at_first : {X : Type 0} (xs ys : List X) (i : ℕ) → i < length xs → slice_get (xs ++ ys) i ≡ slice_get xs i
at_first [] ys i h = absurd (omega arith)
at_first (x ∷ xs) ys zero h = refl
at_first (x ∷ xs) ys (suc i) h = at_first xs ys i (omega (arith, h))

-- the element after the first list
pub at_next : {X : Type 0} (xs : List X) (x : X) (ys : List X) → slice_get (xs ++ x ∷ ys) (length xs) ≡ Some x
at_next [] x ys = refl
at_next (y ∷ xs) x ys = at_next xs x ys

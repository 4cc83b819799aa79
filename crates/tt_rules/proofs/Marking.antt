-- Loops that mark the places of entries: the marks set, and those that the entries left will set.
use Rattle.std.proofs.Common.{◌≡◌, ℕ, Bool, false, ◌||◌, List, [], ◌∷◌, slice_index_or, sym, ap, ◌∙◌}
use Rattle.std.specs.Prelude.{count_by}
use Rattle.std.specs.List.{list_any}
use Rattle.std.proofs.Math.Bool.{or_assoc, or-false}
use Rattle.tt_list_laws.specs.Words.{range_below}
use Rattle.tt_list_laws.proofs.Sums.{one_if, sum_by-same}

-- the marks set, together with those that the elements left will set, are the complete marks
abbrev pub MarksTo : {X : Type 0} → (ℕ → X → Bool) → (ℕ → Bool) → List Bool → List X → Type 0
MarksTo {X} at whole marks left = (k : ℕ) → (slice_index_or marks k false || list_any (at k) left) ≡ whole k

module _ {X : Type 0} (at : ℕ → X → Bool) where
  -- the start: nothing is marked yet
  pub marks_first : (all : List X) (marks : List Bool) → ((k : ℕ) → slice_index_or marks k false ≡ false)
      → MarksTo at (λ k. list_any (at k) all) marks all
  marks_first all marks none k = ap (λ b. b || list_any (at k) all) (none k)

  -- another element
  pub marks_more : (whole : ℕ → Bool) (marks more : List Bool) (x : X) (xs left : List X) → left ≡ x ∷ xs
      → ((k : ℕ) → slice_index_or more k false ≡ (slice_index_or marks k false || at k x)) → MarksTo at whole marks left
      → MarksTo at whole more xs
  marks_more whole marks more x xs left is added before k =
      ap (λ b. b || list_any (at k) xs) (added k)
      ∙ or_assoc (slice_index_or marks k false) (at k x) (list_any (at k) xs)
      ∙ ap (λ l. slice_index_or marks k false || list_any (at k) l) (sym is)
      ∙ before k

  -- the end: no element is left
  pub marks_last : (whole : ℕ → Bool) (marks : List Bool) (left : List X) → left ≡ [] → MarksTo at whole marks left → (k : ℕ)
      → slice_index_or marks k false ≡ whole k
  marks_last whole marks left none before k =
      sym (or-false (slice_index_or marks k false)) ∙ ap (λ l. slice_index_or marks k false || list_any (at k) l) (sym none) ∙ before k

  -- at the end, the count of the marks is the count of the complete marks
  pub marks_counted : (whole : ℕ → Bool) (marks : List Bool) (left : List X) (n total : ℕ) → left ≡ [] → MarksTo at whole marks left
      → total ≡ count_by (λ k. slice_index_or marks k false) (range_below n) → total ≡ count_by whole (range_below n)
  marks_counted whole marks left n total none before counted =
      counted ∙ sum_by-same (λ k. one_if (slice_index_or marks k false)) (λ k. one_if (whole k)) (range_below n)
      (λ k. ap one_if (marks_last whole marks left none before k))

-- One marking after another.
use Rattle.std.proofs.Common.{◌≡◌, ◌+◌, ◌<◌, Bool, true, false, ℕ, zero, suc, List, [], ◌∷◌, ◌++◌, length, refl, sym, ap, ◌∙◌, subst, arith, inl, inr, le_of_suc-le-suc}
use Rattle.std.specs.Prelude.{◌⊎◌, Contains, slice_set}
use Rattle.std.proofs.lemmas.Bool.{cases_eq, cases_lt, both_ways}
use Rattle.std.proofs.lemmas.List.{get_or_past, length-set, length-append, get_or-set_same, get_or-set_other}
use Rattle.std.proofs.lemmas.List.Elements.{Contains-append_left, Contains-push, Contains-push_cases}
use Rattle.tt_list_laws.proofs.Sums.{count_by-cons, one_if_true, one_if_false}
use Rattle.tt_moves_chain.specs.Marks.{marked, marks, IsMarking}

-- A marked place is one of the list.
pub marked-below : (fs : List Bool) (i : ℕ) → marked fs i ≡ true → i < length fs
marked-below fs i e = elim (cases_lt i (length fs)) [
  | inl h ↦ h
  | inr h ↦ absurd (both_ways (marked fs i) (get_or_past fs i false h) e)
]

-- One place more is marked.
pub marks-set : (fs : List Bool) (i : ℕ) → i < length fs → marked fs i ≡ false → marks (slice_set fs i true) ≡ marks fs + 1
marks-set [] i h e = absurd (omega arith)
marks-set (f ∷ fs) zero h e = omega (
  arith,
  count_by-cons (λ b. b) true fs,
  count_by-cons (λ b. b) f fs,
  one_if_true true refl,
  one_if_false f e,
)
marks-set (f ∷ fs) (suc i) h e = omega (
  arith,
  count_by-cons (λ b. b) f (slice_set fs i true),
  count_by-cons (λ b. b) f fs,
  marks-set fs i (le_of_suc-le-suc h) e,
)

module _ (fs : List Bool) (ws : List ℕ) (i : ℕ) (h : i < length fs) where
  same_or_other : (j : ℕ) → (j ≡ i) ⊎ (marked (slice_set fs i true) j ≡ marked fs j)
  same_or_other j = elim (cases_eq j i) [
    | inl e ↦ inl e
    | inr n ↦ inr (get_or-set_other fs i j true false n)
  ]

  here : marked (slice_set fs i true) i ≡ true
  here = get_or-set_same fs i true false h

  -- A place that is newly marked waits.
  pub marking-one : marked fs i ≡ false → IsMarking fs ws (slice_set fs i true) (ws ++ i ∷ [])
  marking-one fresh = record {
    size = length-set fs i true;
    stays = λ j e. elim (same_or_other j) [
      | inl s ↦ ap (marked (slice_set fs i true)) s ∙ here
      | inr s ↦ s ∙ e
    ];
    new_waits = λ j e. elim (same_or_other j) [
      | inl s ↦ inr (subst (λ z. Contains (ws ++ i ∷ []) z) (sym s) (Contains-push ws i))
      | inr s ↦ inl (sym s ∙ e)
    ];
    still_waits = λ j e. Contains-append_left ws (i ∷ []) j e;
    waits = λ j e. elim (Contains-push_cases ws i j e) [
      | inl m ↦ inl m
      | inr s ↦ inr (ap (marked (slice_set fs i true)) (sym s) ∙ here)
    ];
    grows = omega (arith, marks-set fs i h fresh);
    counted = omega (arith, marks-set fs i h fresh, length-append ws (i ∷ []));
  }

-- No place is marked.
pub marking-none : (fs : List Bool) (ws : List ℕ) → IsMarking fs ws fs ws
marking-none fs ws = record {
  size = refl;
  stays = λ i e. e;
  new_waits = λ i e. inl e;
  still_waits = λ i e. e;
  waits = λ i e. inl e;
  grows = omega arith;
  counted = refl;
}

module _ (fs gs hs : List Bool) (us vs ws : List ℕ) (one : IsMarking fs us gs vs) (two : IsMarking gs vs hs ws) where
  pub marking-both : IsMarking fs us hs ws
  marking-both = record {
    size = two.size ∙ one.size;
    stays = λ i e. two.stays i (one.stays i e);
    new_waits = λ i e. elim (two.new_waits i e) [
      | inl m ↦ elim (one.new_waits i m) [
        | inl n ↦ inl n
        | inr n ↦ inr (two.still_waits i n)
      ]
      | inr m ↦ inr m
    ];
    still_waits = λ i e. two.still_waits i (one.still_waits i e);
    waits = λ i e. elim (two.waits i e) [
      | inl m ↦ elim (one.waits i m) [
        | inl n ↦ inl n
        | inr n ↦ inr (two.stays i n)
      ]
      | inr m ↦ inr m
    ];
    grows = omega (arith, one.grows, two.grows);
    counted = omega (arith, one.counted, two.counted);
  }

-- Lists in which each element occurs once.
use Rattle.std.proofs.Common.{◌≡◌, ◌+◌, ◌≤◌, Bool, true, false, not, cond, List, [], ◌∷◌, ◌++◌, length, refl, sym, ap, ◌∙◌, append_assoc, arith}
use Rattle.std.specs.Prelude.{fold, All}
use Rattle.std.specs.List.{list_any, list_all}
use Rattle.std.proofs.lemmas.Bool.{and_from, and_parts, or_from, or_parts, not-true, not_from_false}
use Rattle.std.proofs.lemmas.List.{append-nil, length_push}
use Rattle.std.proofs.lemmas.List.Elements.{All-nil, All-head, All-tail, All-push}
use Rattle.std.proofs.lemmas.List.Folds.{list_all-append}
use Rattle.std.proofs.lemmas.List.Sums.{fold-append}
use Rattle.tt_list_laws.specs.Words.{each_two, with_new, distinct}
use Rattle.tt_list_laws.proofs.Twos.{each_two-push}

module _ {X : Type 0} (same : X → X → Bool) where
  -- distinct elements of a list with another element at its end
  pub distinct_push : (xs : List X) (x : X) → distinct same (xs ++ x ∷ []) ≡ with_new same (distinct same xs) x
  distinct_push xs x = fold-append (with_new same) [] xs (x ∷ [])

  -- -- properties that carry over from a list to its distinct elements

  -- if a property holds of each element and of the new one, it holds of each after the new one is added
  All-with_new : (P : X → Type 0) (xs : List X) (x : X) → All P xs → P x → All P (with_new same xs x)
  All-with_new P xs x all one = by_test (list_any (λ y. same y x) xs)
    where
      by_test : (b : Bool) → All P (cond b xs (xs ++ x ∷ []))
      by_test true = all
      by_test false = All-push P xs x all one

  -- if a property holds of each element so far and of those that follow, it holds of each in the end
  All-fold : (P : X → Type 0) (before xs : List X) → All P before → All P xs → All P (fold (with_new same) before xs)
  All-fold P before [] now all = now
  All-fold P before (x ∷ xs) now all = All-fold P (with_new same before x) xs (All-with_new P before x now (All-head P x xs all))
      (All-tail P x xs all)

  -- if a property holds of each element, it holds of each distinct one
  pub All-distinct : (P : X → Type 0) (xs : List X) → All P xs → All P (distinct same xs)
  All-distinct P xs all = All-fold P [] xs (All-nil P) all

  -- adding an element makes the list longer by at most one
  length-with_new : (xs : List X) (x : X) → length (with_new same xs x) ≤ length xs + 1
  length-with_new xs x = by_test (list_any (λ y. same y x) xs)
    where
      by_test : (b : Bool) → length (cond b xs (xs ++ x ∷ [])) ≤ length xs + 1
      by_test true = omega arith
      by_test false = omega (arith, length_push xs x)

  -- adding elements makes the list longer by at most one each time
  length-fold : (before xs : List X) → length (fold (with_new same) before xs) ≤ length before + length xs
  length-fold before [] = omega arith
  length-fold before (x ∷ xs) = omega (arith, length-fold (with_new same before x) xs, length-with_new before x)

  -- there are no more distinct elements than elements
  pub length-distinct : (xs : List X) → length (distinct same xs) ≤ length xs
  length-distinct xs = omega (arith, length-fold [] xs)

  -- ---- no two are the same

  -- the two are not the same
  abbrev differ : X → X → Bool
  differ a b = not (same a b)

  -- if no element is the same as x, each differs from it
  none_same : (xs : List X) (x : X) → list_any (λ y. same y x) xs ≡ false → list_all (λ y. differ y x) xs ≡ true
  none_same [] x e = refl
  none_same (y ∷ ys) x e =
      let h = or_parts (same y x) (list_any (λ z. same z x) ys) e in
      and_from (differ y x) (list_all (λ z. differ z x) ys) (not_from_false (same y x) h.0) (none_same ys x h.1)

  -- elements that differ from each other still differ after a new one is added
  each_two-with_new : (xs : List X) (x : X) → each_two differ xs ≡ true → each_two differ (with_new same xs x) ≡ true
  each_two-with_new xs x e = by_test (list_any (λ y. same y x) xs) refl
    where
      by_test : (b : Bool) → list_any (λ y. same y x) xs ≡ b → each_two differ (cond b xs (xs ++ x ∷ [])) ≡ true
      by_test true h = e
      by_test false h = each_two-push differ xs x e (none_same xs x h)

  -- elements that differ from each other still differ after all that follow are added
  each_two-fold : (before xs : List X) → each_two differ before ≡ true → each_two differ (fold (with_new same) before xs) ≡ true
  each_two-fold before [] e = e
  each_two-fold before (x ∷ xs) e = each_two-fold (with_new same before x) xs (each_two-with_new before x e)

  -- no two distinct elements are the same
  pub each_two-distinct : (xs : List X) → each_two (λ a b. not (same a b)) (distinct same xs) ≡ true
  each_two-distinct xs = each_two-fold [] xs refl

  -- -- if each element occurs once, all stay

  -- if no two elements are the same, an element is new after those before it
  is_new : (before : List X) (x : X) (xs : List X) → each_two differ (before ++ x ∷ xs) ≡ true → list_any (λ y. same y x) before ≡ false
  is_new [] x xs e = refl
  is_new (y ∷ ys) x xs e =
      let a = and_parts (list_all (differ y) (ys ++ x ∷ xs)) (each_two differ (ys ++ x ∷ xs)) e in
      let b = and_parts (list_all (differ y) ys) (list_all (differ y) (x ∷ xs)) (sym (list_all-append (differ y) ys (x ∷ xs)) ∙ a.0) in
      let c = and_parts (differ y x) (list_all (differ y) xs) b.1 in
      or_from (same y x) (list_any (λ z. same z x) ys) (not-true (same y x) c.0) (is_new ys x xs a.1)

  -- if no two elements are the same, each that follows is added
  fold_stays : (before xs : List X) → each_two differ (before ++ xs) ≡ true → fold (with_new same) before xs ≡ before ++ xs
  fold_stays before [] e = sym (append-nil before)
  fold_stays before (x ∷ xs) e =
      let grouped : (before ++ x ∷ []) ++ xs ≡ before ++ x ∷ xs = append_assoc before (x ∷ []) xs in
      let new : with_new same before x ≡ before ++ x ∷ [] = rw (is_new before x xs e) refl in
      ap (λ l. fold (with_new same) l xs) new ∙ fold_stays (before ++ x ∷ []) xs (ap (each_two differ) grouped ∙ e) ∙ grouped

  -- if no two elements are the same, the distinct elements are all elements
  pub distinct_stays : (xs : List X) → each_two (λ a b. not (same a b)) xs ≡ true → distinct same xs ≡ xs
  distinct_stays xs e = fold_stays [] xs e

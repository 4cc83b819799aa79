-- The last of the k least numbers is the k-th smallest.
use Rattle.std.proofs.Common.{◌≡◌, ℕ, suc, ◌+◌, ◌≤◌, ◌<◌, Bool, true, false, List, [], ◌∷◌, ◌++◌, length, length-append, get_or, Option, Some, None, sym, ap, ◌∙◌, subst, arith, inl, inr, min, lt-ltb, le-ltb, le-leb, leb-true, ltb-true, zero-le}
use Rattle.std.specs.Prelude.{Contains, count_by, nat_lt, nat_le, All, MatchOption, IfSome}
use Rattle.std.specs.Ordering.{nat_cmp}
use Rattle.std.specs.List.{AllByRecursion}
use Rattle.std.specs.List.Sorted.{IsSortedBy}
use Rattle.std.proofs.lemmas.Map.Keys.{ge_from_not_lt}
use Rattle.std.proofs.lemmas.Bool.{and_parts, and_from, cases_order, cases_lt, both_ways}
use Rattle.std.proofs.lemmas.List.Sums.{sum_by-append, count_by-le-length}
use Rattle.std.proofs.lemmas.List.Elements.{All-contains, Contains-append_left, Contains-push}
use Rattle.std.proofs.lemmas.List.Sorted.{length_permutation, sum_by-IsPermutation, Contains-permutation, IsPermutation-sym}
use Rattle.itertools.specs.Extremes.{IsKLeast, by_cmp}
use Rattle.tt_list_laws.proofs.Sums.{sum_by-le, one_if, one_if_false, cond-le, each, each_weaker, count_by-cons}
use Rattle.tt_list_laws.proofs.Members.{none_counted}
use Rattle.tt_list_laws.proofs.Counting.{count_all}
use Rattle.tt_list_laws.proofs.Finding.{find_only, find_never, find_member}
use Rattle.tt_leaf_find.specs.Best.{is_kth, kth_smallest}

-- ---- a k-th smallest

-- two k-th smallest numbers can't differ
kth_only : (ns : List ℕ) (n u v : ℕ) → is_kth ns n u ≡ true → is_kth ns n v ≡ true → v < u → ⊥
kth_only ns n u v eu ev h =
    let a = and_parts (nat_lt (count_by (λ m. nat_lt m u) ns) n) (nat_le n (count_by (λ m. nat_le m u) ns)) eu in
    let b = and_parts (nat_lt (count_by (λ m. nat_lt m v) ns) n) (nat_le n (count_by (λ m. nat_le m v) ns)) ev in
    let at_most = ltb-true (count_by (λ m. nat_lt m u) ns) n a.0 in
    let many = leb-true n (count_by (λ m. nat_le m v) ns) b.1 in
    let k = sum_by-le (λ m. one_if (nat_le m v)) (λ m. one_if (nat_lt m u)) ns
    (each (λ m. one_if (nat_le m v) ≤ one_if (nat_lt m u))
    (λ m. cond-le (nat_le m v) (nat_lt m u) (λ e. let l = leb-true m v e in lt-ltb m u (omega arith))) ns) in
    omega arith

-- the numbers of a sorted list are at most its last
rising : (front : List ℕ) (u : ℕ) → IsSortedBy (by_cmp nat_cmp) (front ++ u ∷ []) → AllByRecursion (λ m. m ≤ u) (front ++ u ∷ [])
rising [] u h = (omega arith, tt)
rising (x ∷ xs) u h =
    let behind : IsSortedBy (by_cmp nat_cmp) (xs ++ u ∷ []) = λ k d l m.
    subst (λ i. by_cmp nat_cmp (get_or (x ∷ (xs ++ u ∷ [])) i d) (get_or (xs ++ u ∷ []) k d) ≡ false) (next k)
    (h (suc k) d zero-le (omega (arith, m))) in
    let rest = rising xs u behind in
    (first xs rest (λ d m. ge_from_not_lt _ _ (h 0 d zero-le m)), rest)
  where
    next : (k : ℕ) → suc k + 1 ≡ suc (k + 1)
    next k = omega arith

    first : (ys : List ℕ) → AllByRecursion (λ m. m ≤ u) (ys ++ u ∷ [])
        → ((d : ℕ) → 1 < length (x ∷ (ys ++ u ∷ [])) → x ≤ get_or (ys ++ u ∷ []) 0 d) → x ≤ u
    first [] a f = f 0 (omega arith)
    first (y ∷ ys) a f = let k = f 0 (omega arith) in omega (arith, a.0)

module _ (k : ℕ) (xs ys : List ℕ) (least : IsKLeast (by_cmp nat_cmp) k xs ys) where
  abbrev rest : List ℕ
  rest = least.2

  as_long : length ys ≡ min k (length xs)
  as_long =
      let e = length_permutation xs (ys ++ rest) least.3 in
      let a = length-append ys rest in
      elim (cases_lt (length ys) k) [
        | inl h ↦ let n = ap length (least.4 h) in omega (arith, least.1)
        | inr h ↦ omega (arith, least.1)
      ]

  counted : (q : ℕ → Bool) → count_by q xs ≡ count_by q ys + count_by q rest
  counted q = sym (sum_by-IsPermutation (λ m. one_if (q m)) xs (ys ++ rest) least.3) ∙ sum_by-append (λ m. one_if (q m)) ys rest

  last_is : (front : List ℕ) (u : ℕ) → ys ≡ front ++ u ∷ [] → Some u ≡ kth_smallest k xs
  last_is front u e =
      let n = min k (length xs) in
      let inside : Contains ys u = subst (λ l. Contains l u) (sym e) (Contains-push front u) in
      let member : Contains xs u = Contains-permutation (ys ++ rest) xs u (IsPermutation-sym xs (ys ++ rest) least.3)
      (Contains-append_left ys rest u inside) in
      let long : length ys ≡ length front + 1 = ap length e ∙ length-append front (u ∷ []) in
      let below = λ (m : ℕ). nat_lt m u in
      let upto = λ (m : ℕ). nat_le m u in
      let none_left : count_by below rest ≡ 0 = none_counted below rest (λ z m t.
      let l = ge_from_not_lt z u
      (All-contains (λ r. by_cmp nat_cmp z r ≡ false) ys u
      (All-contains (λ w. All (λ r. by_cmp nat_cmp w r ≡ false) ys) rest z least.5 m) inside) in
      both_ways (nat_lt z u) (le-ltb z u l) t) in
      let front_only : count_by below ys ≡ count_by below front = ap (count_by below) e ∙ sum_by-append (λ m. one_if (below m)) front
      (u ∷ []) ∙ omega (arith, count_by-cons below u [], one_if_false (nat_lt u u) (le-ltb u u (omega arith))) in
      let at_most : count_by below xs < n = omega (arith, counted below, as_long, count_by-le-length below front) in
      let all : count_by upto ys ≡ length ys =
      ap (count_by upto) e ∙ count_all upto (front ++ u ∷ []) (each_weaker (λ m. m ≤ u) (λ m. nat_le m u ≡ true) (λ m l. le-leb m u l)
      (front ++ u ∷ []) (rising front u (subst (IsSortedBy (by_cmp nat_cmp)) e least.0))) ∙ sym (ap length e) in
      let many : n ≤ count_by upto xs = omega (arith, counted upto, as_long) in
      let here : is_kth xs n u ≡ true = and_from (nat_lt (count_by below xs) n) (nat_le n (count_by upto xs))
      (lt-ltb (count_by below xs) n at_most) (le-leb n (count_by upto xs) many) in
      sym (find_only (is_kth xs n) xs u member here (λ v t. elim (cases_order v u) [
        | inl same ↦ same
        | inr o ↦ elim o [ inl l ↦ absurd (kth_only xs n u v here t l) | inr l ↦ absurd (kth_only xs n v u t here l) ]
      ]))

  none_is : length ys ≡ 0 → None ≡ kth_smallest k xs
  none_is e =
      let n = min k (length xs) in
      let z : n ≡ 0 = omega (arith, as_long) in
      sym (find_never (is_kth xs n) xs (λ v t.
      let a = and_parts (nat_lt (count_by (λ m. nat_lt m v) xs) n) (nat_le n (count_by (λ m. nat_le m v) xs)) t in
      let l = ltb-true (count_by (λ m. nat_lt m v) xs) n a.0 in
      absurd (omega arith)))

  -- the number that `next_back` returns
  pub kth_is : (left : List ℕ) (o : Option ℕ) → MatchOption o (length ys ≡ 0) (λ u. ys ≡ left ++ u ∷ []) → o ≡ kth_smallest k xs
  kth_is left None h = none_is h
  kth_is left (Some u) h = last_is left u h

-- the number that `next_back` returns, from the numbers of elements before and after the call
pub kth_from_back : (k : ℕ) (xs ys : List ℕ) → IsKLeast (by_cmp nat_cmp) k xs ys → (left : List ℕ) (o : Option ℕ) (before after : ℕ)
    → before ≡ length ys → MatchOption o ((before ≡ 0) × (after ≡ 0)) (λ u. ys ≡ left ++ u ∷ []) → o ≡ kth_smallest k xs
kth_from_back k xs ys least left None before after e h = kth_is k xs ys least left None (sym e ∙ h.0)
kth_from_back k xs ys least left (Some u) before after e h = kth_is k xs ys least left (Some u) h

pub kth_member : (k : ℕ) (xs : List ℕ) (o : Option ℕ) → o ≡ kth_smallest k xs → IfSome o (Contains xs)
kth_member k xs None e = tt
kth_member k xs (Some u) e = find_member (is_kth xs (min k (length xs))) xs u (sym e)

-- The numbers below a bound: each occurs once; sums and counts over them.
use Rattle.std.proofs.Common.{◌≡◌, ℕ, ◌+◌, ◌≤◌, ◌<◌, Bool, true, cond, sym, ap, ◌∙◌, map-id, length, get_or, refl, arith, zero, suc, zero-le, inl, inr, eq-eqb, ne_eqb}
use Rattle.std.specs.Prelude.{sum_by, count_by, ◌==◌}
use Rattle.std.specs.List.{list_any, range_with_len}
use Rattle.std.proofs.lemmas.List.Folds.{list_any_at}
use Rattle.std.proofs.lemmas.List.FromFn.{length-range_with_len, get_or-range_with_len, sum_by-map-range_with_len_more}
use Rattle.std.proofs.lemmas.Bool.{cases_eq}
use Rattle.tt_list_laws.specs.Words.{range_below}
use Rattle.tt_list_laws.proofs.Sums.{one_if, one_if_true, one_if_false, count_by-cons}

pub any_below : (p : ℕ → Bool) (n k : ℕ) → k < n → p k ≡ true → list_any p (range_below n) ≡ true
any_below p n k h e =
    let here : p (get_or (range_with_len 0 n) k 0) ≡ true = rw (get_or-range_with_len 0 n k 0 h) (let z : 0 + k ≡ k = omega arith in
    rw z e) in
    list_any_at p (range_below n) k 0 (rw (length-range_with_len 0 n) h) here

count_from_above : (i a n : ℕ) → i < a → count_by (λ k. i == k) (range_with_len a n) ≡ 0
count_from_above i a zero h = refl
count_from_above i a (suc n) h =
    let d = one_if_false (i == a) (ne_eqb i a (λ e. omega arith)) in
    omega (arith, count_by-cons (λ k. i == k) a (range_with_len (a + 1) n), count_from_above i (a + 1) n (omega arith))

count_from : (i a n : ℕ) → count_by (λ k. i == k) (range_with_len a n) ≤ 1
count_from i a zero = zero-le
count_from i a (suc n) = elim (cases_eq i a) [ inl e ↦ here e | inr e ↦ later e (count_from i (a + 1) n) ]
  where
    c : count_by (λ k. i == k) (range_with_len a (suc n)) ≡ one_if (i == a) + count_by (λ k. i == k) (range_with_len (a + 1) n)
    c = count_by-cons (λ k. i == k) a (range_with_len (a + 1) n)

    here : i ≡ a → count_by (λ k. i == k) (range_with_len a (suc n)) ≤ 1
    here e = omega (arith, c, one_if_true (i == a) (eq-eqb i a e), count_from_above i (a + 1) n (omega arith))

    later : (i ≡ a → ⊥) → count_by (λ k. i == k) (range_with_len (a + 1) n) ≤ 1 → count_by (λ k. i == k) (range_with_len a (suc n)) ≤ 1
    later e rest = omega (arith, c, one_if_false (i == a) (ne_eqb i a e))

pub count_below : (i n : ℕ) → count_by (λ k. i == k) (range_below n) ≤ 1
count_below i n = count_from i 0 n

-- -- one number further

pub sum_more : (f : ℕ → ℕ) (i : ℕ) → sum_by f (range_below (i + 1)) ≡ sum_by f (range_below i) + f i
sum_more f i =
    let z : 0 + i ≡ i = omega arith in
    ap (sum_by f) (sym (map-id (range_below (i + 1)))) ∙ sum_by-map-range_with_len_more f (λ k. k) 0 i i z
    ∙ ap (λ l. sum_by f l + f i) (map-id (range_below i))

pub count_more : (p : ℕ → Bool) (i : ℕ) → count_by p (range_below (i + 1)) ≡ count_by p (range_below i) + cond (p i) 1 0
count_more p i = sum_more (λ k. cond (p k) 1 0) i

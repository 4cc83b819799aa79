-- The rooms that miss the fewest seats.
use Rattle.std.proofs.Common.{◌≡◌, ℕ, ◌+◌, ◌<◌, ◌≤◌, true, sym, ap, ◌∙◌, inl, inr, arith, eq-eqb, eqb-true, ne_eqb}
use Rattle.std.specs.Prelude.{◌==◌, nat_le, count_by, min}
use Rattle.std.specs.List.{list_all}
use Rattle.std.proofs.lemmas.Bool.{cases_eq, cases_lt, le-leb, leb-true}
use Rattle.tt_list_laws.specs.Words.{range_below}
use Rattle.tt_list_laws.proofs.Numbers.{count_more}
use Rattle.tt_list_laws.proofs.Range.{all_below, at_below}
use Rattle.tt_list_laws.proofs.Sums.{one_if}
use Rattle.tt_list_laws.proofs.Tests.{sum_by-same_below}
use Rattle.tt_list_laws.proofs.Truth.{same_truth}

-- the least value of f up to a number, from that below it
module _ (f : ℕ → ℕ) (n least next now : ℕ) (next_is : next ≡ f n) (now_is : now ≡ min least next) where
  pub least_more : ((r : ℕ) → r < n → least ≤ f r) → (r : ℕ) → r < n + 1 → now ≤ f r
  least_more before r h = elim (cases_eq r n) [
    | inl e ↦
        let same : f r ≡ f n = ap f e in
        omega (arith, next_is, now_is, same)
    | inr apart ↦
        let old = before r (omega (arith, h, apart)) in
        omega (arith, now_is, old)
  ]

  pub there_more : ((r : ℕ) × (r < n) × (f r ≡ least)) → (r : ℕ) × (r < n + 1) × (f r ≡ now)
  there_more w = elim (cases_lt next least) [
    | inl lt ↦ (n, omega arith, omega (arith, next_is, now_is, lt))
    | inr le ↦ (w.0, let old = w.1 in omega (arith, old), let same = w.2 in omega (arith, now_is, same, le))
  ]

-- the number of places at which f has a value, up to a number, from that below it
module _ (f : ℕ → ℕ) (n least old now next : ℕ) (next_is : next ≡ f n) (counted : old ≡ count_by (λ r. f r == least) (range_below n)) where
  more : count_by (λ r. f r == least) (range_below (n + 1)) ≡ old + one_if (f n == least)
  more = count_more (λ r. f r == least) n ∙ ap (λ k. k + one_if (f n == least)) (sym counted)

  pub counted_with : next ≡ least → now ≡ old + 1 → now ≡ count_by (λ r. f r == least) (range_below (n + 1))
  counted_with e sum = sum ∙ sym (more ∙ ap (λ b. old + one_if b) (eq-eqb (f n) least (sym next_is ∙ e)))

  pub counted_without : (next ≡ least → ⊥) → now ≡ old → now ≡ count_by (λ r. f r == least) (range_below (n + 1))
  counted_without apart same =
      let zero : old + 0 ≡ old = omega arith in
      same ∙ sym (more ∙ ap (λ b. old + one_if b) (ne_eqb (f n) least (λ e. apart (next_is ∙ e))) ∙ zero)

-- the numbers below n at which f is least, if its least value is known
module _ (f : ℕ → ℕ) (n least : ℕ) (at_least : (r : ℕ) → r < n → least ≤ f r) (there : 0 < n → (r : ℕ) × (r < n) × (f r ≡ least)) where
  pub fewest_counted : count_by (λ r. f r == least) (range_below n)
      ≡ count_by (λ r. list_all (λ q. nat_le (f r) (f q)) (range_below n)) (range_below n)
  fewest_counted = sum_by-same_below (λ r. one_if (f r == least)) (λ r. one_if (list_all (λ q. nat_le (f r) (f q)) (range_below n))) n
      (λ r h. ap one_if (same_truth (f r == least) (list_all (λ q. nat_le (f r) (f q)) (range_below n)) (down r) (up r h)))
    where
      down : (r : ℕ) → (f r == least) ≡ true → list_all (λ q. nat_le (f r) (f q)) (range_below n) ≡ true
      down r e = all_below (λ q. nat_le (f r) (f q)) n
          (λ q k. le-leb (f r) (f q) (omega (arith, at_least q k, eqb-true (f r) least e)))

      up : (r : ℕ) → r < n → list_all (λ q. nat_le (f r) (f q)) (range_below n) ≡ true → (f r == least) ≡ true
      up r h e =
          let w = there (omega (arith, h)) in
          let le = leb-true (f r) (f w.0) (at_below (λ q. nat_le (f r) (f q)) n w.0 e w.1) in
          let ge = at_least r h in
          eq-eqb (f r) least (omega (arith, le, ge, w.2))

-- Counts of the numbers below a bound after one more passes.
use Rattle.std.proofs.Common.{◌≡◌, ◌≢◌, ℕ, zero, suc, ◌+◌, ◌-◌, ◌<◌, ◌≤◌, Bool, true, false, ◌&&◌, ◌||◌, refl, sym, ap, ◌∙◌, subst, inl, inr, arith, eq-eqb, ne_eqb}
use Rattle.std.specs.Prelude.{◌==◌, sum_by, count_by}
use Rattle.std.proofs.Math.Bool.{or-false, or-true}
use Rattle.std.proofs.lemmas.Bool.{cases_eq}
use Rattle.std.proofs.lemmas.List.FromFn.{length-range_with_len}
use Rattle.std.proofs.lemmas.List.Sums.{count_by-le-length}
use Rattle.tt_list_laws.specs.Words.{range_below}
use Rattle.tt_list_laws.proofs.Numbers.{sum_more}
use Rattle.tt_list_laws.proofs.Sums.{one_if}
use Rattle.tt_list_laws.proofs.Tests.{sum_by-same_below}

-- a sum of which one term grows
sum_by-grown : (f g : ℕ → ℕ) (n c x : ℕ) → c < n → g c ≡ f c + x → ((d : ℕ) → d ≢ c → g d ≡ f d)
    → sum_by g (range_below n) ≡ sum_by f (range_below n) + x
sum_by-grown f g zero c x h e others = absurd (omega arith)
sum_by-grown f g (suc n) c x h e others =
    let k : suc n ≡ n + 1 = omega arith in
    let a : sum_by g (range_below (suc n)) ≡ sum_by g (range_below n) + g n = ap (λ i. sum_by g (range_below i)) k ∙ sum_more g n in
    let b : sum_by f (range_below (suc n)) ≡ sum_by f (range_below n) + f n = ap (λ i. sum_by f (range_below i)) k ∙ sum_more f n in
    elim (cases_eq c n) [
      | inl same ↦
          let before = sum_by-same_below g f n (λ d l. others d (λ z. omega (arith, l, z, same))) in
          let last : g n ≡ f n + x = subst (λ i. g i ≡ f i + x) same e in
          omega (arith, a, b, before, last)
      | inr apart ↦
          let lt : c < n = omega (arith, h) in
          let before = sum_by-grown f g n c x lt e others in
          let last : g n ≡ f n = others n (λ z. apart (sym z)) in
          omega (arith, a, b, before, last)
    ]

module _ (f g q : ℕ → Bool) (n c : ℕ) (h : c < n) (absent : f c ≡ false) (grown : (d : ℕ) → g d ≡ (f d || (d == c))) where
  -- a count with one more number, if it has a property
  pub count_grown : count_by (λ d. g d && q d) (range_below n) ≡ count_by (λ d. f d && q d) (range_below n) + one_if (q c)
  count_grown =
      let there : g c ≡ true = grown c ∙ ap (λ b. f c || b) (eq-eqb c c refl) ∙ or-true (f c) in
      let own : one_if (g c && q c) ≡ one_if (f c && q c) + one_if (q c) = rw (there, absent) (omega arith) in
      sum_by-grown (λ d. one_if (f d && q d)) (λ d. one_if (g d && q d)) n c (one_if (q c)) h own
      (λ d apart. ap (λ b. one_if (b && q d)) (grown d ∙ ap (λ b. f d || b) (ne_eqb d c apart) ∙ or-false (f d)))

-- counts by tests that agree
pub count_same : (f g q : ℕ → Bool) (n : ℕ) → ((d : ℕ) → g d ≡ f d) → count_by (λ d. g d && q d) (range_below n) ≡ count_by
    (λ d. f d && q d) (range_below n)
count_same f g q n same =
    sum_by-same_below (λ d. one_if (g d && q d)) (λ d. one_if (f d && q d)) n (λ d l. ap (λ b. one_if (b && q d)) (same d))

-- in a row that may be the one with another number
pub count_grown_if : (f g q : ℕ → Bool) (n c : ℕ) (b : Bool) → c < n → (b ≡ true → f c ≡ false)
    → ((d : ℕ) → g d ≡ (f d || (b && (d == c))))
    → count_by (λ d. g d && q d) (range_below n) ≡ count_by (λ d. f d && q d) (range_below n) + one_if (b && q c)
count_grown_if f g q n c true h absent grown = count_grown f g q n c h (absent refl) grown
count_grown_if f g q n c false h absent grown =
    let same = count_same f g q n (λ d. grown d ∙ or-false (f d)) in
    omega (arith, same)

-- no count is larger than the number of numbers
pub count_at_most : (q : ℕ → Bool) (n : ℕ) → count_by q (range_below n) ≤ n
count_at_most q n = omega (arith, count_by-le-length q (range_below n), length-range_with_len 0 n)

-- a count that grows by one, and a spare from which one is taken if there is some
pub raised : (b : Bool) (n m : ℕ) → (n + one_if b) + (m - one_if b) ≡ (n + m) + one_if (b && (m == 0))
raised false n m = omega arith
raised true n m = elim (cases_eq m 0) [
  | inl e ↦ rw (eq-eqb m 0 e) (omega (arith, e))
  | inr some ↦ rw (ne_eqb m 0 some) (omega (arith, some))
]

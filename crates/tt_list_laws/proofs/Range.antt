-- The numbers below a bound: which they are, that they differ, and tests of all of them.
use Rattle.std.proofs.Common.{◌≡◌, ℕ, zero, suc, ◌+◌, ◌<◌, Bool, true, false, not, refl, sym, ap, ◌∙◌, arith, ne_eqb}
use Rattle.std.specs.Prelude.{Contains, ◌==◌}
use Rattle.std.specs.List.{list_any, list_all, range_with_len, AllByRecursion}
use Rattle.std.proofs.lemmas.List.FromFn.{length-range_with_len, get_or-range_with_len}
use Rattle.std.proofs.lemmas.Bool.{and_from, not_from_false}
use Rattle.tt_list_laws.specs.Words.{range_below, each_two}
use Rattle.tt_list_laws.proofs.Below.{all_more, any_more}
use Rattle.tt_list_laws.proofs.Numbers.{any_below}
use Rattle.tt_list_laws.proofs.Members.{each_member, member_from_any, each_below_at}
use Rattle.tt_list_laws.proofs.Sums.{each_from_list_all}
use Rattle.tt_list_laws.proofs.Truth.{same_truth}

-- a number in the range is below the bound
pub below_member : (n k : ℕ) → Contains (range_below n) k → k < n
below_member n k h =
    let l : h.0 < n = omega (arith, h.1, length-range_with_len 0 n) in
    omega (arith, h.2, get_or-range_with_len 0 n h.0 k l)

-- if a property holds of each number below the bound, it holds of each number in the range
pub each_below : (P : ℕ → Type 0) (n : ℕ) → ((k : ℕ) → k < n → P k) → AllByRecursion P (range_below n)
each_below P n f = each_member P (range_below n) (λ k m. f k (below_member n k m))

others_above : (a b n : ℕ) → a < b → list_all (λ k. not (a == k)) (range_with_len b n) ≡ true
others_above a b zero h = refl
others_above a b (suc n) h =
    and_from (not (a == b)) (list_all (λ k. not (a == k)) (range_with_len (b + 1) n))
    (not_from_false (a == b) (ne_eqb a b (λ e. omega arith))) (others_above a (b + 1) n (omega arith))

distinct_from : (a n : ℕ) → each_two (λ x y. not (x == y)) (range_with_len a n) ≡ true
distinct_from a zero = refl
distinct_from a (suc n) =
    and_from (list_all (λ k. not (a == k)) (range_with_len (a + 1) n)) (each_two (λ x y. not (x == y)) (range_with_len (a + 1) n))
    (others_above a (a + 1) n (omega arith)) (distinct_from (a + 1) n)

-- no number occurs twice in the range
pub distinct_below : (n : ℕ) → each_two (λ x y. not (x == y)) (range_below n) ≡ true
distinct_below n = distinct_from 0 n

-- ---- tests

-- if each number below the bound passes, the test of all of them passes
pub all_below : (p : ℕ → Bool) (n : ℕ) → ((k : ℕ) → k < n → p k ≡ true) → list_all p (range_below n) ≡ true
all_below p zero h = refl
all_below p (suc n) h =
    let e : suc n ≡ n + 1 = omega arith in
    ap (λ m. list_all p (range_below m)) e ∙ all_more p n (all_below p n (λ k l. h k (omega arith))) (h n (omega arith))

-- if no number below the bound passes, the test of any of them fails
pub none_below : (p : ℕ → Bool) (n : ℕ) → ((k : ℕ) → k < n → p k ≡ false) → list_any p (range_below n) ≡ false
none_below p zero h = refl
none_below p (suc n) h =
    let e : suc n ≡ n + 1 = omega arith in
    ap (λ m. list_any p (range_below m)) e ∙ any_more p n (none_below p n (λ k l. h k (omega arith))) (h n (omega arith))

-- if all numbers pass, each single one passes
pub at_below : (p : ℕ → Bool) (n k : ℕ) → list_all p (range_below n) ≡ true → k < n → p k ≡ true
at_below p n k e h = each_below_at (λ i. p i ≡ true) n k (each_from_list_all p (range_below n) e) h

-- two tests that agree below the bound give the same answer for all numbers
pub all_same_below : (f g : ℕ → Bool) (n : ℕ) → ((r : ℕ) → r < n → f r ≡ g r) → list_all f (range_below n) ≡ list_all g (range_below n)
all_same_below f g n h = same_truth (list_all f (range_below n)) (list_all g (range_below n))
    (λ e. all_below g n (λ k l. sym (h k l) ∙ at_below f n k e l))
    (λ e. all_below f n (λ k l. h k l ∙ at_below g n k e l))

pub any_same_below : (f g : ℕ → Bool) (n : ℕ) → ((r : ℕ) → r < n → f r ≡ g r) → list_any f (range_below n) ≡ list_any g (range_below n)
any_same_below f g n h = same_truth (list_any f (range_below n)) (list_any g (range_below n))
    (λ e. let m = member_from_any f (range_below n) e in let l = below_member n m.0 m.1 in any_below g n m.0 l (sym (h m.0 l) ∙ m.2))
    (λ e. let m = member_from_any g (range_below n) e in let l = below_member n m.0 m.1 in any_below f n m.0 l (h m.0 l ∙ m.2))

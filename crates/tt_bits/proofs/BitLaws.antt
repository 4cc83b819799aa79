-- Bits of words.
use Rattle.std.proofs.Common.{◌≡◌, ℕ, zero, suc, ◌-◌, ◌*◌, ◌%◌, ◌^◌, ◌<◌, Bool, true, false, not, ◌&&◌, ◌||◌, min, bit_and, refl, sym, ap, ◌∙◌, arith, inl, inr, w64, eq-eqb, ne_eqb}
use Rattle.std.specs.Prelude.{◌==◌, nat_lt}
use Rattle.std.specs.List.{list_any, list_all}
use Rattle.std.specs.Int.{bit_at, bit_not, trailing_zeros}
use Rattle.std.proofs.lemmas.Nat.Bits.{bit_at_and, bit_at_not, bit_at-lt, bit_at-pow_same, bit_at-pow_other, bit_at-trailing_zeros, bit_at-zero, bit_at_ones, bit_at_ones_above}
use Rattle.std.proofs.lemmas.Bool.{and_from, and_parts, cases_eq, false_from_ne_true, both_ways, cases_lt, lt-ltb, le-ltb}
use Rattle.std.proofs.Math.Pow.{pow-lt}
use Rattle.std.proofs.Math.Nat.{mod-eq_of_lt}
use Rattle.tt_list_laws.proofs.Numbers.{any_below}
use Rattle.tt_list_laws.proofs.Members.{member_from_any}
use Rattle.tt_list_laws.proofs.Range.{below_member, all_below, none_below, at_below, all_same_below, any_same_below}
use Rattle.tt_list_laws.proofs.Truth.{same_truth, wanted, not_wanted}
use Rattle.tt_bits.specs.Inner.Bits.{has_bit, bits, each_bit}

test_of : (a b : ℕ) → a < 2 → b < 2 → (min a b == 1) ≡ ((a == 1) && (b == 1))
test_of zero b h k = ap (λ n. n == 1) (let e : min 0 b ≡ 0 = omega arith in e)
test_of (suc zero) b h k = ap (λ n. n == 1) (let e : min 1 b ≡ b = omega arith in e)
test_of (suc (suc a)) b h k = absurd (omega arith)

test_not : (a : ℕ) → a < 2 → ((1 - a) == 1) ≡ not (a == 1)
test_not zero h = refl
test_not (suc zero) h = refl
test_not (suc (suc a)) h = absurd (omega arith)

pub has_bit-without : (a b r : ℕ) → b < 2 ^ 64 → r < 64 → has_bit (bit_and a (bit_not w64 b)) r ≡ (has_bit a r && not (has_bit b r))
has_bit-without a b r hb hr =
    ap (λ n. n == 1) (bit_at_and a (bit_not w64 b) r)
    ∙ ap (λ n. min (bit_at a r) n == 1) (bit_at_not w64 b r hb hr)
    ∙ test_of (bit_at a r) (1 - bit_at b r) (bit_at-lt a r) (omega arith)
    ∙ ap (λ t. has_bit a r && t) (test_not (bit_at b r) (bit_at-lt b r))

pub has_bit-both : (a b r : ℕ) → has_bit (bit_and a b) r ≡ (has_bit a r && has_bit b r)
has_bit-both a b r = ap (λ n. n == 1) (bit_at_and a b r) ∙ test_of (bit_at a r) (bit_at b r) (bit_at-lt a r) (bit_at-lt b r)

pub has_bit-not : (b r : ℕ) → b < 2 ^ 64 → r < 64 → has_bit (bit_not w64 b) r ≡ not (has_bit b r)
has_bit-not b r hb hr = ap (λ n. n == 1) (bit_at_not w64 b r hb hr) ∙ test_not (bit_at b r) (bit_at-lt b r)

pub has_bit-one : (k r : ℕ) → has_bit (2 ^ k) r ≡ (r == k)
has_bit-one k r = elim (cases_eq r k) [
  | inl e ↦ ap (λ n. bit_at (2 ^ k) n == 1) e ∙ ap (λ n. n == 1) (bit_at-pow_same k) ∙ sym (eq-eqb r k e)
  | inr e ↦ ap (λ n. n == 1) (bit_at-pow_other k r e) ∙ sym (ne_eqb r k e)
]

pub has_bit-full : (r : ℕ) → r < 64 → has_bit (2 ^ 64 - 1) r ≡ true
has_bit-full r h = ap (λ n. n == 1) (bit_at_ones 64 r h)

pub has_bit-none : (r : ℕ) → has_bit 0 r ≡ false
has_bit-none r = ap (λ n. n == 1) (bit_at-zero r)

-- ---- tests of all bits

-- the word 0 has no bit
pub empty-none : (w : ℕ) → w ≡ 0 → list_any (has_bit w) bits ≡ false
unfolding bits
empty-none w e = none_below (has_bit w) 64 (λ k h. ap (λ n. has_bit n k) e ∙ has_bit-none k)

pub some-bit : (w : ℕ) → 0 < w → w < 2 ^ 64 → list_any (has_bit w) bits ≡ true
unfolding bits
some-bit w h k =
    let a = bit_at-trailing_zeros w64 w h k in
    any_below (has_bit w) 64 (trailing_zeros w64 w) a.0 (ap (λ n. n == 1) a.1)

pub none-bit : (w r : ℕ) → list_any (has_bit w) bits ≡ false → r < 64 → has_bit w r ≡ false
unfolding bits
none-bit w r e h = false_from_ne_true (has_bit w r) (λ t. both_ways (list_any (has_bit w) bits) e (any_below (has_bit w) 64 r h t))

-- ---- tests of the numbers of a set

module _ (w : ℕ) (t : ℕ → Bool) where
  pub each_bit_from : ((k : ℕ) → k < 64 → has_bit w k ≡ true → t k ≡ true) → each_bit w t ≡ true
  unfolding bits
  each_bit_from f = all_below (λ k. not (has_bit w k) || t k) 64 (λ k h. not_wanted (has_bit w k) (t k) (f k h))

  pub each_bit_at : (k : ℕ) → k < 64 → each_bit w t ≡ true → has_bit w k ≡ true → t k ≡ true
  unfolding bits
  each_bit_at k h e b = wanted (has_bit w k) (t k) (at_below (λ i. not (has_bit w i) || t i) 64 k e h) b

  pub each_bit-none : w ≡ 0 → each_bit w t ≡ true
  each_bit-none e = each_bit_from (λ k l b. absurd (both_ways (has_bit w k) (ap (λ n. has_bit n k) e ∙ has_bit-none k) b))

-- `1 << k`
pub shifted : (k : ℕ) → k < 64 → 1 * 2 ^ k % 2 ^ 64 ≡ 2 ^ k
shifted k h =
    let l : 2 ^ k < 2 ^ 64 = pow-lt h in
    let e : 1 * 2 ^ k ≡ 2 ^ k = omega arith in
    ap (λ n. n % 2 ^ 64) e ∙ mod-eq_of_lt l

-- a set with one of its numbers removed, and the numbers left
module _ (w rest j : ℕ) (h : j < 64) (e : has_bit w j ≡ true) (l : (r : ℕ) → r < 64 → has_bit rest r ≡ (has_bit w r && not (r == j))) where
  pub each_bit-one : (t : ℕ → Bool) → list_any (has_bit rest) bits ≡ false → each_bit w t ≡ t j
  each_bit-one t none = same_truth (each_bit w t) (t j) (λ a. each_bit_at w t j h a e)
      (λ a. each_bit_from w t (λ k hk b. elim (cases_eq k j) [
        | inl q ↦ ap t q ∙ a
        | inr q ↦ absurd
            (both_ways (has_bit rest k) (none-bit rest k none hk)
            (l k hk ∙ and_from (has_bit w k) (not (k == j)) b (ap not (ne_eqb k j q))))
      ]))

  pub another_bit : list_any (has_bit rest) bits ≡ true → (i : ℕ) × (i < 64) × (has_bit w i ≡ true) × (i ≡ j → ⊥)
  unfolding bits
  another_bit some =
      let m = member_from_any (has_bit rest) bits some in
      let i = m.0 in
      let hi : i < 64 = below_member 64 i m.1 in
      let two = and_parts (has_bit w i) (not (i == j)) (sym (l i hi) ∙ m.2) in
      (i, hi, two.0, (λ q. both_ways (not (i == j)) (ap not (eq-eqb i j q)) two.1))

-- ---- tests that agree on the bits

pub any_bits : (f g : ℕ → Bool) → ((r : ℕ) → r < 64 → f r ≡ g r) → list_any f bits ≡ list_any g bits
unfolding bits
any_bits f g h = any_same_below f g 64 h

pub all_bits : (f g : ℕ → Bool) → ((r : ℕ) → r < 64 → f r ≡ g r) → list_all f bits ≡ list_all g bits
unfolding bits
all_bits f g h = all_same_below f g 64 h

-- a test of some bit passes if it passes one of the numbers below 64
pub any_bits_at : (p : ℕ → Bool) (r : ℕ) → r < 64 → p r ≡ true → list_any p bits ≡ true
unfolding bits
any_bits_at p r h e = any_below p 64 r h e

pub bit_from_any : (p : ℕ → Bool) → list_any p bits ≡ true → (r : ℕ) × (r < 64) × (p r ≡ true)
unfolding bits
bit_from_any p e = let m = member_from_any p bits e in (m.0, below_member 64 m.0 m.1, m.2)

pub all_bits_from : (p : ℕ → Bool) → ((r : ℕ) → r < 64 → p r ≡ true) → list_all p bits ≡ true
unfolding bits
all_bits_from p h = all_below p 64 h

pub all_bits_at : (p : ℕ → Bool) (r : ℕ) → list_all p bits ≡ true → r < 64 → p r ≡ true
unfolding bits
all_bits_at p r e h = at_below p 64 r e h

-- the numbers below a bound
pub low_bits : (n r : ℕ) → has_bit (2 ^ n - 1) r ≡ nat_lt r n
low_bits n r = elim (cases_lt r n) [
  | inl h ↦ ap (λ m. m == 1) (bit_at_ones n r h) ∙ sym (lt-ltb r n h)
  | inr h ↦ ap (λ m. m == 1) (bit_at_ones_above n r h) ∙ sym (le-ltb r n h)
]

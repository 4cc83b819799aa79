-- The number of elements of a set.
use Rattle.std.proofs.Common.{◌≡◌, ℕ, zero, suc, ◌+◌, ◌-◌, ◌*◌, ◌/◌, ◌%◌, ◌^◌, ◌<◌, ◌≤◌, Bool, ◌&&◌, cond, refl, sym, ap, ◌∙◌, arith, add-one, pow-suc}
use Rattle.std.specs.Prelude.{◌==◌, nat_lt, count_by, count_ones}
use Rattle.std.specs.List.{range_with_len, list_any}
use Rattle.std.proofs.lemmas.Bool.{and_parts, and_from, lt-ltb, ltb-true, le-ltb}
use Rattle.std.specs.Int.Count.{ones}
use Rattle.std.proofs.lemmas.Nat.{ones_cat}
use Rattle.std.proofs.lemmas.Nat.Bits.{bit_at-suc, bit_at_lowest}
use Rattle.tt_list_laws.specs.Words.{range_below}
use Rattle.tt_list_laws.proofs.Numbers.{any_below, count_more}
use Rattle.tt_list_laws.proofs.Members.{member_from_any}
use Rattle.tt_list_laws.proofs.Sums.{one_if, count_by-cons}
use Rattle.tt_list_laws.proofs.Range.{below_member}
use Rattle.tt_list_laws.proofs.Truth.{same_truth}
use Rattle.tt_bits.specs.Inner.Bits.{has_bit, bits}
use Rattle.tt_bits.proofs.BitLaws.{bit_from_any, any_bits_at}

halved : (w k : ℕ) → has_bit w (k + 1) ≡ has_bit (w / 2) k
halved w k = ap (has_bit w) (add-one k) ∙ ap (λ n. n == 1) (bit_at-suc w k)

count-halved : (w d i : ℕ) → count_by (has_bit w) (range_with_len (i + 1) d) ≡ count_by (has_bit (w / 2)) (range_with_len i d)
count-halved w zero i = refl
count-halved w (suc d) i =
    count_by-cons (has_bit w) (i + 1) (range_with_len (i + 1 + 1) d)
    ∙ ap (λ b. one_if b + count_by (has_bit w) (range_with_len (i + 1 + 1) d)) (halved w i)
    ∙ ap (λ n. one_if (has_bit (w / 2) i) + n) (count-halved w d (i + 1))
    ∙ sym (count_by-cons (has_bit (w / 2)) i (range_with_len (i + 1) d))

digit : (n : ℕ) → n < 2 → count_ones n ≡ one_if (n == 1)
unfolding ones
digit zero h = refl
digit (suc zero) h = refl
digit (suc (suc n)) h = absurd (omega arith)

counted : (d w : ℕ) → w < 2 ^ d → count_ones w ≡ count_by (has_bit w) (range_below d)
counted zero w h = let e : w ≡ 0 = omega arith in ap count_ones e ∙ digit 0 (omega arith)
counted (suc d) w h =
    let parts : w ≡ w / 2 * 2 ^ 1 + w % 2 = omega arith in
    let low : w % 2 < 2 = omega arith in
    let half : w / 2 < 2 ^ d = half_below d w h in
    ap count_ones parts ∙ ones_cat 1 (w / 2) (w % 2) low
    ∙ ap (λ n. n + count_ones (w % 2)) (counted d (w / 2) half ∙ sym (count-halved w d 0))
    ∙ ap (λ n. count_by (has_bit w) (range_with_len (0 + 1) d) + n) (digit (w % 2) low ∙ ap (λ n. one_if (n == 1)) (sym (bit_at_lowest w)))
    ∙ swap (count_by (has_bit w) (range_with_len (0 + 1) d)) (one_if (has_bit w 0))
    ∙ sym (count_by-cons (has_bit w) 0 (range_with_len (0 + 1) d))
  where
    half_below : (d w : ℕ) → w < 2 ^ suc d → w / 2 < 2 ^ d
    half_below d w h = omega (arith, pow-suc 2 d)

    swap : (a b : ℕ) → a + b ≡ b + a
    swap a b = omega arith

pub count_ones-bits : (w : ℕ) → w < 2 ^ 64 → count_ones w ≡ count_by (has_bit w) bits
unfolding bits
count_ones-bits w h = counted 64 w h

-- ---- a set of the numbers below a bound that pass a test

count-same : (f g : ℕ → Bool) (n : ℕ) → ((k : ℕ) → k < n → f k ≡ g k) → count_by f (range_below n) ≡ count_by g (range_below n)
count-same f g zero h = refl
count-same f g (suc n) h =
    let e : suc n ≡ n + 1 = omega arith in
    ap (λ m. count_by f (range_below m)) e ∙ count_more f n
    ∙ ap (λ m. m + cond (f n) 1 0) (count-same f g n (λ k l. h k (omega arith)))
    ∙ ap (λ b. count_by g (range_below n) + cond b 1 0) (h n (omega arith))
    ∙ sym (count_more g n) ∙ sym (ap (λ m. count_by g (range_below m)) e)

pub count-past : (t : ℕ → Bool) (n more : ℕ) → count_by (λ s. nat_lt s n && t s) (range_below (n + more)) ≡ count_by t (range_below n)
count-past t n zero =
    let e : n + 0 ≡ n = omega arith in
    ap (λ m. count_by (λ s. nat_lt s n && t s) (range_below m)) e ∙ count-same (λ s. nat_lt s n && t s) t n
    (λ k l. ap (λ b. b && t k) (lt-ltb k n l))
count-past t n (suc more) =
    let e : n + suc more ≡ n + more + 1 = omega arith in
    ap (λ m. count_by (λ s. nat_lt s n && t s) (range_below m)) e ∙ count_more (λ s. nat_lt s n && t s) (n + more)
    ∙ ap (λ b. count_by (λ s. nat_lt s n && t s) (range_below (n + more)) + cond (b && t (n + more)) 1 0)
    (le-ltb (n + more) n (omega arith))
    ∙ omega (arith, count-past t n more)

pub count-bits : (f g : ℕ → Bool) → ((r : ℕ) → r < 64 → f r ≡ g r) → count_by f bits ≡ count_by g (range_below 64)
unfolding bits
count-bits f g h = count-same f g 64 h

module _ (w n : ℕ) (t : ℕ → Bool) (at_most : n ≤ 64) (set : (s : ℕ) → s < 64 → has_bit w s ≡ (nat_lt s n && t s)) where
  pub count-set : count_by (has_bit w) bits ≡ count_by t (range_below n)
  unfolding bits
  count-set =
      let e : 64 ≡ n + (64 - n) = omega arith in
      count-same (has_bit w) (λ s. nat_lt s n && t s) 64 set ∙ ap (λ m. count_by (λ s. nat_lt s n && t s) (range_below m)) e
      ∙ count-past t n (64 - n)

  pub any-set : list_any (has_bit w) bits ≡ list_any t (range_below n)
  any-set = same_truth (list_any (has_bit w) bits) (list_any t (range_below n))
      (λ e.
      let a = bit_from_any (has_bit w) e in
      let b = and_parts (nat_lt a.0 n) (t a.0) (sym (set a.0 a.1) ∙ a.2) in
      any_below t n a.0 (ltb-true a.0 n b.0) b.1)
      (λ e.
      let m = member_from_any t (range_below n) e in
      let h = below_member n m.0 m.1 in
      any_bits_at (has_bit w) m.0 (omega arith) (set m.0 (omega arith) ∙ and_from (nat_lt m.0 n) (t m.0) (lt-ltb m.0 n h) m.2))

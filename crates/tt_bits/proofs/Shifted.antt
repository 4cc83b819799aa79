-- Sets whose numbers are shifted by one.
use Rattle.std.proofs.Common.{◌≡◌, ℕ, ◌+◌, ◌-◌, ◌*◌, ◌/◌, ◌%◌, ◌^◌, ◌<◌, ◌&&◌, sym, ap, ◌∙◌, arith, inl, inr, add-one}
use Rattle.std.specs.Prelude.{◌==◌, nat_lt}
use Rattle.std.specs.Int.{bit_at}
use Rattle.std.proofs.lemmas.Bool.{cases_lt, lt-ltb, le-ltb}
use Rattle.std.proofs.lemmas.Nat.Bits.{bit_at-suc, bit_at-zero, bit_at_above, bit_at_cat_low, bit_at_cat_high}
use Rattle.tt_bits.specs.Inner.Bits.{has_bit}

-- the bits above the word are dropped
kept : (n r : ℕ) → r < 64 → bit_at (n % 2 ^ 64) r ≡ bit_at n r
kept n r h =
    let e : n ≡ n / 2 ^ 64 * 2 ^ 64 + n % 2 ^ 64 = omega arith in
    sym (ap (λ m. bit_at m r) e ∙ bit_at_cat_low (n / 2 ^ 64) 64 (n % 2 ^ 64) r h)

pub has_bit-next : (w r : ℕ) → r < 64 → has_bit (w * 2 ^ 1 % 2 ^ 64) r ≡ (nat_lt 0 r && has_bit w (r - 1))
has_bit-next w r h =
    let e : w * 2 ^ 1 ≡ w * 2 ^ 1 + 0 = omega arith in
    ap (λ n. n == 1) (kept (w * 2 ^ 1) r h) ∙ ap (λ m. bit_at m r == 1) e ∙ elim (cases_lt 0 r) [
      | inl l ↦ ap (λ n. n == 1) (bit_at_cat_high w 1 0 r (omega arith) (omega arith))
          ∙ sym (ap (λ b. b && has_bit w (r - 1)) (lt-ltb 0 r l))
      | inr l ↦ ap (λ n. n == 1) (bit_at_cat_low w 1 0 r (omega arith) ∙ bit_at-zero r)
          ∙ sym (ap (λ b. b && has_bit w (r - 1)) (le-ltb 0 r l))
    ]

pub has_bit-previous : (w r : ℕ) → w < 2 ^ 64 → r < 64 → has_bit (w / 2 ^ 1) r ≡ (nat_lt (r + 1) 64 && has_bit w (r + 1))
has_bit-previous w r at_most h =
    let e : w / 2 ^ 1 ≡ w / 2 = omega arith in
    let all : has_bit (w / 2) r ≡ has_bit w (r + 1) = sym (ap (has_bit w) (add-one r) ∙ ap (λ n. n == 1) (bit_at-suc w r)) in
    ap (λ n. has_bit n r) e ∙ elim (cases_lt (r + 1) 64) [
      | inl l ↦ all ∙ sym (ap (λ b. b && has_bit w (r + 1)) (lt-ltb (r + 1) 64 l))
      | inr l ↦ all ∙ ap (λ n. n == 1) (bit_at_above w 64 (r + 1) at_most l) ∙ sym (ap (λ b. b && has_bit w (r + 1)) (le-ltb (r + 1) 64 l))
    ]

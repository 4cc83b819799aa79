-- Sets built number by number.
use Rattle.std.proofs.Common.{◌≡◌, ℕ, ◌+◌, ◌*◌, ◌%◌, ◌^◌, ◌<◌, zero, suc, max, Bool, true, false, ◌&&◌, ◌||◌, refl, sym, ap, ◌∙◌, arith, inl, inr, w64, eq-eqb, ne_eqb}
use Rattle.std.specs.Prelude.{◌==◌, nat_lt}
use Rattle.std.specs.Int.{bit_at}
use Rattle.std.specs.Int.Bits.{bit_or}
use Rattle.std.proofs.Math.Bool.{or-false, or-true}
use Rattle.std.proofs.lemmas.Bool.{cases_eq, cases_lt, lt-ltb, le-ltb}
use Rattle.std.proofs.lemmas.Nat.Bits.{bit_at_or, bit_at-lt, bit_at_set_same, bit_at_set_other}
use Rattle.tt_bits.specs.Inner.Bits.{has_bit}
use Rattle.tt_bits.proofs.BitLaws.{has_bit-none}

pub has_bit-with : (w k s : ℕ) → k < 64 → has_bit (bit_or w (1 * 2 ^ k % 2 ^ 64)) s ≡ (has_bit w s || (s == k))
has_bit-with w k s h = elim (cases_eq s k) [
  | inl e ↦ ap (has_bit (bit_or w (1 * 2 ^ k % 2 ^ 64))) e ∙ ap (λ n. n == 1) (bit_at_set_same w64 w k h)
      ∙ sym (ap (λ b. has_bit w s || b) (eq-eqb s k e) ∙ or-true (has_bit w s))
  | inr e ↦ ap (λ n. n == 1) (bit_at_set_other w64 w k h s e) ∙ sym (ap (λ b. has_bit w s || b) (ne_eqb s k e) ∙ or-false (has_bit w s))
]

pub has_bit-either : (a b r : ℕ) → has_bit (bit_or a b) r ≡ (has_bit a r || has_bit b r)
has_bit-either a b r = ap (λ n. n == 1) (bit_at_or a b r) ∙ test_or (bit_at a r) (bit_at b r) (bit_at-lt a r) (bit_at-lt b r)
  where
    test_or : (a b : ℕ) → a < 2 → b < 2 → (max a b == 1) ≡ ((a == 1) || (b == 1))
    test_or zero b h k = ap (λ n. n == 1) (let e : max 0 b ≡ b = omega arith in e)
    test_or (suc zero) b h k = ap (λ n. n == 1) (let e : max 1 b ≡ 1 = omega arith in e)
    test_or (suc (suc a)) b h k = absurd (omega arith)

-- the start: no number below 0 passes
pub set_none : (t : ℕ → Bool) (s : ℕ) → has_bit 0 s ≡ (nat_lt s 0 && t s)
set_none t s = has_bit-none s ∙ sym (ap (λ b. b && t s) (le-ltb s 0 (omega arith)))

next_test : (t : ℕ → Bool) (n s : ℕ) (b : Bool) → b ≡ t n → ((nat_lt s n && t s) || (b && (s == n))) ≡ (nat_lt s (n + 1) && t s)
next_test t n s b e = elim (cases_eq s n) [
  | inl q ↦ ap (λ x. (x && t s) || (b && (s == n))) (le-ltb s n (omega arith)) ∙ ap (λ x. b && x) (eq-eqb s n q) ∙ and_yes b ∙ e
      ∙ ap t (sym q) ∙ sym (ap (λ x. x && t s) (lt-ltb s (n + 1) (omega arith)))
  | inr q ↦ ap (λ x. (nat_lt s n && t s) || (b && x)) (ne_eqb s n q) ∙ ap (λ x. (nat_lt s n && t s) || x) (and_no b)
      ∙ or-false (nat_lt s n && t s) ∙ ap (λ x. x && t s) (elim (cases_lt s n) [
        | inl l ↦ lt-ltb s n l ∙ sym (lt-ltb s (n + 1) (omega arith))
        | inr l ↦ le-ltb s n l ∙ sym (le-ltb s (n + 1) (omega arith))
      ])
]
  where
    and_yes : (b : Bool) → (b && true) ≡ b
    and_yes true = refl
    and_yes false = refl

    and_no : (b : Bool) → (b && false) ≡ false
    and_no true = refl
    and_no false = refl

-- the set of the numbers below n that pass becomes the set of those below n + 1
pub set_next : (t : ℕ → Bool) (old new n : ℕ) (b : Bool) → b ≡ t n → ((s : ℕ) → s < 64 → has_bit old s ≡ (nat_lt s n && t s))
    → ((s : ℕ) → s < 64 → has_bit new s ≡ (has_bit old s || (b && (s == n)))) → (s : ℕ) → s < 64 → has_bit new s ≡ (nat_lt s (n + 1) && t s)
set_next t old new n b e before added s h = added s h ∙ ap (λ x. x || (b && (s == n))) (before s h) ∙ next_test t n s b e

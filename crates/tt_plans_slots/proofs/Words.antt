-- Words as sets of courses: a bit that is written, and bits that two sets have in common.
use Rattle.std.proofs.Common.{◌≡◌, ◌≢◌, ℕ, ◌+◌, ◌*◌, ◌/◌, ◌%◌, ◌<◌, ◌≤◌, Bool, true, false, ◌&&◌, cond, eqb, List, length, get_or, replicate, set, refl, sym, ap, ◌∙◌, inl, inr, arith}
use Rattle.std.specs.Int.{div_ceil}
use Rattle.std.specs.List.{list_any}
use Rattle.std.proofs.Math.Nat.{div-add-mod}
use Rattle.std.proofs.lemmas.Bool.{and_parts, both_ways, cases_eq, cases_lt, false_from_ne_true, ne_eqb}
use Rattle.std.proofs.lemmas.List.{get_or_past, get_or-set_same, get_or-set_other, length-replicate, length-set}
use Rattle.tt_list_laws.proofs.Beginnings.{read_default}
use Rattle.tt_bits.specs.Inner.Bits.{has_bit, bits}
use Rattle.tt_bits.proofs.BitLaws.{bit_from_any, has_bit-none, none-bit}
use Rattle.tt_instance.specs.Inner.Flags.{flag_in, flags_in}
use Rattle.tt_instance.proofs.Flagging.{flag_at, flag_past, word_there}
use Rattle.tt_plans_slots.specs.Inner.CourseWords.{AreCourseWords}

-- the word of a course
pub word_of : (words : List ℕ) (n k : ℕ) → AreCourseWords words n → k < n → k / 64 < length words
word_of words n k are lt = word_there words n k are.len lt

-- the bit of each number is its flag
pub flag_listed : (words : List ℕ) (n k : ℕ) → AreCourseWords words n → flag_in words k ≡ get_or (flags_in words n) k false
flag_listed words n k are = elim (cases_lt k n) [
  | inl lt ↦ sym (flag_at words n k lt)
  | inr le ↦
      false_from_ne_true (flag_in words k) (λ e. let lt = are.below k e in omega (arith, le, lt)) ∙ sym (flag_past words n k le)
]

-- words that are all 0 have no bits
none_in : (words : List ℕ) (m k : ℕ) → words ≡ replicate m 0 → flag_in words k ≡ false
none_in words m k are =
    ap (λ w. has_bit w (k % 64)) (ap (λ (xs : List ℕ). get_or xs (k / 64) 0) are ∙ read_default m (k / 64) 0) ∙ has_bit-none (k % 64)

pub empty_words : (words : List ℕ) (m n : ℕ) → words ≡ replicate m 0 → m ≡ div_ceil n 64 → AreCourseWords words n
empty_words words m n are long = record {
  len = ap length are ∙ length-replicate m 0 ∙ long;
  below = λ k e. absurd (both_ways (flag_in words k) (none_in words m k are) e);
}

-- ---- a bit that is written

module _ (words : List ℕ) (n i w : ℕ) (v : Bool) (are : AreCourseWords words n) (lt : i < n)
    (bits_are : (r : ℕ) → r < 64 → has_bit w r ≡ cond (eqb r (i % 64)) v (has_bit (get_or words (i / 64) 0) r)) where
  -- the flag of another number
  other : (k : ℕ) → k ≢ i → flag_in (set words (i / 64) w) k ≡ flag_in words k
  other k apart = elim (cases_eq (k / 64) (i / 64)) [
    | inl same ↦
        ap (λ p. has_bit (get_or (set words (i / 64) w) p 0) (k % 64)) same
        ∙ ap (λ x. has_bit x (k % 64)) (get_or-set_same words (i / 64) w 0 (word_there words n i are.len lt))
        ∙ bits_are (k % 64) (omega arith)
        ∙ ap (λ b. cond b v (has_bit (get_or words (i / 64) 0) (k % 64)))
        (ne_eqb (k % 64) (i % 64) (λ e. apart (omega (arith, same, e, div-add-mod k 64, div-add-mod i 64))))
        ∙ ap (λ p. has_bit (get_or words p 0) (k % 64)) (sym same)
    | inr not_same ↦ ap (λ x. has_bit x (k % 64)) (get_or-set_other words (i / 64) (k / 64) w 0 not_same)
  ]

  pub still_words : AreCourseWords (set words (i / 64) w) n
  still_words = record {
    len = length-set words (i / 64) w ∙ are.len;
    below = λ k e. elim (cases_eq k i) [
      | inl same ↦ omega (arith, same, lt)
      | inr apart ↦ are.below k (sym (other k apart) ∙ e)
    ];
  }

-- ---- bits that two sets have in common

flag_of : (words : List ℕ) (place r : ℕ) → r < 64 → flag_in words (place * 64 + r) ≡ has_bit (get_or words place 0) r
flag_of words place r h =
    let word : (place * 64 + r) / 64 ≡ place = omega arith in
    let bit : (place * 64 + r) % 64 ≡ r = omega arith in
    ap (λ p. has_bit (get_or words p 0) ((place * 64 + r) % 64)) word ∙ ap (has_bit (get_or words place 0)) bit

-- no bit of the first words is one of the others
abbrev pub AreApart : List ℕ → List ℕ → ℕ → Type 0
AreApart words others n =
    (i r : ℕ) → i < n → r < 64 → has_bit (get_or words i 0) r ≡ true → has_bit (get_or others i 0) r ≡ false

second_false : (a b : Bool) → (a && b) ≡ false → a ≡ true → b ≡ false
second_false true b e t = e
second_false false b e t = absurd (both_ways false refl t)

module _ (words others : List ℕ) (place word other both : ℕ) (word_is : word ≡ get_or words place 0)
    (other_is : other ≡ get_or others place 0)
    (both_is : (r : ℕ) → r < 64 → has_bit both r ≡ (has_bit word r && has_bit other r)) where
  -- a word of the common bits that isn't 0
  pub common_at : list_any (has_bit both) bits ≡ true → (k : ℕ) × (flag_in words k ≡ true) × (flag_in others k ≡ true)
  common_at some =
      let a = bit_from_any (has_bit both) some in
      let r = a.0 in
      let t = and_parts (has_bit word r) (has_bit other r) (sym (both_is r a.1) ∙ a.2) in (
        place * 64 + r,
        flag_of words place r a.1 ∙ ap (λ w. has_bit w r) (sym word_is) ∙ t.0,
        flag_of others place r a.1 ∙ ap (λ w. has_bit w r) (sym other_is) ∙ t.1,
      )

  -- one that is 0
  pub apart_more : list_any (has_bit both) bits ≡ false → AreApart words others place → AreApart words others (place + 1)
  apart_more none before i r h k e = elim (cases_lt i place) [
    | inl lt ↦ before i r lt k e
    | inr le ↦
        let same : i ≡ place = omega arith in
        let here : has_bit word r ≡ true = ap (λ w. has_bit w r) (word_is ∙ ap (λ p. get_or words p 0) (sym same)) ∙ e in
        ap (λ p. has_bit (get_or others p 0) r) same ∙ ap (λ w. has_bit w r) (sym other_is)
        ∙ second_false (has_bit word r) (has_bit other r) (sym (both_is r k) ∙ none-bit both r none k) here
  ]

pub apart_all : (words others : List ℕ) (n : ℕ) → length words ≤ n → AreApart words others n → (k : ℕ) → flag_in words k ≡ true
    → flag_in others k ≡ false
apart_all words others n le apart k e = elim (cases_lt (k / 64) n) [
  | inl lt ↦ apart (k / 64) (k % 64) lt (omega arith) e
  | inr past ↦
      absurd (both_ways (flag_in words k)
      (ap (λ w. has_bit w (k % 64)) (get_or_past words (k / 64) 0 (omega arith)) ∙ has_bit-none (k % 64)) e)
]

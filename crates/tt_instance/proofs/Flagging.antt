-- Flags of numbers, as bits of words: reading one, writing one, and adding those of other words.
use Rattle.std.proofs.Common.{◌≡◌, ◌≢◌, ℕ, ◌+◌, ◌/◌, ◌%◌, ◌<◌, ◌≤◌, Bool, true, false, not, ◌&&◌, ◌||◌, cond, eqb, ltb, List, length, get_or, replicate, set, refl, sym, ap, ◌∙◌, inl, inr, arith}
use Rattle.std.specs.Prelude.{◌==◌}
use Rattle.std.specs.Int.{div_ceil}
use Rattle.std.proofs.Math.Nat.{div-add-mod}
use Rattle.std.proofs.lemmas.Bool.{cases_lt, cases_eq, eq-eqb, ne_eqb, lt-ltb, le-ltb}
use Rattle.std.proofs.lemmas.List.{ext_get_or, get_or_past, get_or-set_same, get_or-set_other, get_or-replicate, length-set, length-replicate}
use Rattle.std.proofs.lemmas.List.FromFn.{get_or-map-range_with_len, length-map-range_with_len}
use Rattle.std.proofs.lemmas.Grind.{div_ceil_times, get_or_default_zero}
use Rattle.tt_bits.specs.Inner.Bits.{has_bit}
use Rattle.tt_bits.proofs.BitLaws.{has_bit-none}
use Rattle.tt_instance.specs.Inner.Flags.{flag_in, flags_in}

-- the flag of a number below the length
pub flag_at : (words : List ℕ) (n k : ℕ) → k < n → get_or (flags_in words n) k false ≡ flag_in words k
flag_at words n k lt = get_or-map-range_with_len (flag_in words) 0 n k k false lt (omega arith)

-- no number from the length on has a flag
pub flag_past : (words : List ℕ) (n k : ℕ) → n ≤ k → get_or (flags_in words n) k false ≡ false
flag_past words n k le = get_or_past (flags_in words n) k false (omega (arith, length-map-range_with_len (flag_in words) 0 n))

pub flags_length : (words : List ℕ) (n : ℕ) → length (flags_in words n) ≡ n
flags_length words n = length-map-range_with_len (flag_in words) 0 n

-- the word of a number below the length is there
pub word_there : (words : List ℕ) (n k : ℕ) → length words ≡ div_ceil n 64 → k < n → k / 64 < length words
word_there words n k are lt = omega (arith, are, (div_ceil_times n 64 (omega arith)).0, div-add-mod k 64)

-- two numbers with the same word and the same bit are the same
same_bit : (k i : ℕ) → k / 64 ≡ i / 64 → k % 64 ≡ i % 64 → k ≡ i
same_bit k i word bit = omega (arith, word, bit, div-add-mod k 64, div-add-mod i 64)

module _ (words : List ℕ) (n i w : ℕ) (v : Bool)
    (are : length words ≡ div_ceil n 64) (lt : i < n)
    (bits : (r : ℕ) → r < 64 → has_bit w r ≡ cond (eqb r (i % 64)) v (has_bit (get_or words (i / 64) 0) r)) where
  -- after a word is written, the flag of the number that was meant
  own : flag_in (set words (i / 64) w) i ≡ v
  own = ap (λ (x : ℕ). has_bit x (i % 64)) (get_or-set_same words (i / 64) w 0 (word_there words n i are lt))
      ∙ bits (i % 64) (omega arith) ∙ ap (λ (b : Bool). cond b v (has_bit (get_or words (i / 64) 0) (i % 64)))
      (eq-eqb (i % 64) (i % 64) refl)

  -- and that of another number
  other : (k : ℕ) → k ≢ i → flag_in (set words (i / 64) w) k ≡ flag_in words k
  other k apart = elim (cases_eq (k / 64) (i / 64)) [
    | inl same ↦
        let bit : eqb (k % 64) (i % 64) ≡ false = ne_eqb (k % 64) (i % 64) (λ e. apart (same_bit k i same e)) in
        ap (λ (p : ℕ). has_bit (get_or (set words (i / 64) w) p 0) (k % 64)) same
        ∙ ap (λ (x : ℕ). has_bit x (k % 64)) (get_or-set_same words (i / 64) w 0 (word_there words n i are lt))
        ∙ bits (k % 64) (omega arith)
        ∙ ap (λ (b : Bool). cond b v (has_bit (get_or words (i / 64) 0) (k % 64))) bit
        ∙ ap (λ (p : ℕ). has_bit (get_or words p 0) (k % 64)) (sym same)
    | inr not_same ↦ ap (λ (x : ℕ). has_bit x (k % 64)) (get_or-set_other words (i / 64) (k / 64) w 0 not_same)
  ]

  -- writing a bit of a word writes the flag of one number
  pub written : flags_in (set words (i / 64) w) n ≡ set (flags_in words n) i v
  written = ext_get_or false (flags_in (set words (i / 64) w) n) (set (flags_in words n) i v)
      (flags_length (set words (i / 64) w) n ∙ sym (length-set (flags_in words n) i v ∙ flags_length words n)) each
    where
      each : (k : ℕ) → k < length (flags_in (set words (i / 64) w) n) → get_or (flags_in (set words (i / 64) w) n) k false ≡ get_or
          (set (flags_in words n) i v) k false
      each k h =
          let in_n : k < n = omega (arith, h, flags_length (set words (i / 64) w) n) in
          flag_at (set words (i / 64) w) n k in_n ∙ elim (cases_eq k i) [
            | inl same ↦
                ap (flag_in (set words (i / 64) w)) same ∙ own
                ∙ sym (ap (λ (j : ℕ). get_or (set (flags_in words n) i v) j false) same
                ∙ get_or-set_same (flags_in words n) i v false (omega (arith, lt, flags_length words n)))
            | inr apart ↦
                other k apart ∙ sym (get_or-set_other (flags_in words n) i k v false apart ∙ flag_at words n k in_n)
          ]

-- in words that are all 0, each place has 0
zero_at : (words : List ℕ) (m j : ℕ) → words ≡ replicate m 0 → get_or words j 0 ≡ 0
zero_at words m j are = ap (λ (xs : List ℕ). get_or xs j 0) are ∙ elim (cases_lt j m) [
  | inl h ↦ get_or-replicate m j 0 0 h
  | inr h ↦ get_or_past (replicate m 0) j 0 (omega (arith, length-replicate {A = ℕ} m 0))
]

-- the flags of words that are all 0
pub none_set : (words : List ℕ) (m n : ℕ) → words ≡ replicate m 0 → flags_in words n ≡ replicate n false
none_set words m n are = ext_get_or false (flags_in words n) (replicate n false)
    (flags_length words n ∙ sym (length-replicate n false)) (λ k h.
    let in_n : k < n = omega (arith, h, flags_length words n) in
    flag_at words n k in_n ∙ ap (λ (x : ℕ). has_bit x (k % 64)) (zero_at words m (k / 64) are) ∙ has_bit-none (k % 64)
    ∙ sym (get_or-replicate n k false false in_n))

-- the flags of words to which the bits of others were added
pub added : (words others new : List ℕ) (n k : ℕ) → length words ≡ div_ceil n 64
    → ((i r : ℕ) → i < length words → r < 64 → has_bit (get_or new i 0) r ≡ (has_bit (get_or words i 0) r || has_bit (get_or others i 0) r))
    → get_or (flags_in new n) k false ≡ (get_or (flags_in words n) k false || get_or (flags_in others n) k false)
added words others new n k are bits = elim (cases_lt k n) [
  | inl lt ↦
      flag_at new n k lt ∙ bits (k / 64) (k % 64) (word_there words n k are lt) (omega arith)
      ∙ sym (rw (flag_at words n k lt, flag_at others n k lt) refl)
  | inr le ↦ flag_past new n k le ∙ sym (rw (flag_past words n k le, flag_past others n k le) refl)
]

-- a number below the length of the flags is below the length
pub below : (words : List ℕ) (n k : ℕ) (flags : List Bool) → flags_in words n ≡ flags → k < length flags → k < n
below words n k flags are lt = omega (arith, lt, ap length are, flags_length words n)

or_cond : (x y : Bool) → (x || y) ≡ cond y true x
or_cond true true = refl
or_cond true false = refl
or_cond false true = refl
or_cond false false = refl

and_cond : (x y : Bool) → (x && not y) ≡ cond y false x
and_cond true true = refl
and_cond true false = refl
and_cond false true = refl
and_cond false false = refl

-- the bits of a word after one bit was set
pub bit_set : (old word one new b : ℕ) → word ≡ old → ((r : ℕ) → r < 64 → has_bit one r ≡ (r == b))
    → ((r : ℕ) → r < 64 → has_bit new r ≡ (has_bit word r || has_bit one r))
    → (r : ℕ) → r < 64 → has_bit new r ≡ cond (eqb r b) true (has_bit old r)
bit_set old word one new b is ones news r h =
    news r h ∙ ap (λ (x : Bool). has_bit word r || x) (ones r h) ∙ or_cond (has_bit word r) (eqb r b)
    ∙ ap (λ (w : ℕ). cond (eqb r b) true (has_bit w r)) is

-- the bits of a word after one bit was cleared
pub bit_cleared : (old word one new b : ℕ) → word ≡ old → ((r : ℕ) → r < 64 → has_bit one r ≡ (r == b))
    → ((r : ℕ) → r < 64 → has_bit new r ≡ (has_bit word r && not (has_bit one r)))
    → (r : ℕ) → r < 64 → has_bit new r ≡ cond (eqb r b) false (has_bit old r)
bit_cleared old word one new b is ones news r h =
    news r h ∙ ap (λ (x : Bool). has_bit word r && not x) (ones r h) ∙ and_cond (has_bit word r) (eqb r b)
    ∙ ap (λ (w : ℕ). cond (eqb r b) false (has_bit w r)) is

-- the word of a number, as it was read
pub word_read : (words : List ℕ) (n k word : ℕ) → length words ≡ div_ceil n 64 → k < n → word ≡ get_or words (k / 64) word
    → word ≡ get_or words (k / 64) 0
word_read words n k word are lt is = is ∙ get_or_default_zero words (k / 64) word (word_there words n k are lt)

-- the flag of a number whose word was read
pub flag_read : (words : List ℕ) (n k word : ℕ) → length words ≡ div_ceil n 64 → k < n → word ≡ get_or words (k / 64) word
    → has_bit word (k % 64) ≡ get_or (flags_in words n) k false
flag_read words n k word are lt is =
    ap (λ (w : ℕ). has_bit w (k % 64)) (word_read words n k word are lt is) ∙ sym (flag_at words n k lt)

-- two lists of flags have the same length if they look as long
pub same_length : (words others : List ℕ) (n m : ℕ) (flags more : List Bool) → flags_in words n ≡ flags → flags_in others m ≡ more
    → length more ≡ length flags → m ≡ n
same_length words others n m flags more are those same = omega (
  arith,
  same,
  ap length are,
  ap length those,
  flags_length words n,
  flags_length others m,
)

-- ---- flags that are set one number after the other

one_more : (v w : Bool) → (w || (v && false)) ≡ w
one_more true true = refl
one_more true false = refl
one_more false true = refl
one_more false false = refl

-- the flags of the numbers below i, and then that of i
pub growing : (old new : List Bool) (wanted : ℕ → Bool) (i : ℕ) (v : Bool)
    → ((k : ℕ) → get_or new k false ≡ (get_or old k false || (v && (k == i)))) → v ≡ wanted i
    → ((k : ℕ) → get_or old k false ≡ (ltb k i && wanted k)) → (k : ℕ) → get_or new k false ≡ (ltb k (i + 1) && wanted k)
growing old new wanted i v news own before k =
    news k ∙ ap (λ (b : Bool). b || (v && (k == i))) (before k) ∙ elim (cases_lt k i) [
      | inl lt ↦
          rw (lt-ltb k i lt, ne_eqb k i (λ e. omega (arith, lt, e)), lt-ltb k (i + 1) (omega (arith, lt))) (one_more v (wanted k))
      | inr le ↦ elim (cases_eq k i) [
        | inl same ↦
            rw (le-ltb k i le, eq-eqb k i same, lt-ltb k (i + 1) (omega (arith, same))) (last v ∙ own ∙ ap wanted (sym same))
        | inr apart ↦
            rw (le-ltb k i le, ne_eqb k i apart, le-ltb k (i + 1) (omega (arith, le, apart))) (one_more v false)
      ]
    ]
  where
    last : (b : Bool) → (b && true) ≡ b
    last true = refl
    last false = refl

-- flags that agree with a list of as many
pub all_grown : (flags wanted : List Bool) (n : ℕ) → length flags ≡ n → length wanted ≡ n
    → ((k : ℕ) → get_or flags k false ≡ (ltb k n && get_or wanted k false)) → flags ≡ wanted
all_grown flags wanted n long same each = ext_get_or false flags wanted (long ∙ sym same) (λ k h.
    each k ∙ rw (lt-ltb k n (omega (arith, h, long))) refl)

-- The prices of a claim, with the rooms in blocks of 64: a course is covered if no room that is too cheap has a live cell of it.
use Rattle.std.proofs.Common.{◌≡◌, ℕ, ◌+◌, ◌-◌, ◌*◌, ◌/◌, ◌%◌, ◌<◌, ◌≤◌, Bool, true, false, not, ◌&&◌, ◌||◌, List, length, get_or, set, cond, eqb, take, drop, replicate, mul_comm, refl, sym, ap, ◌∙◌, arith, inl, inr, lt-ltb, ltb-true}
use Rattle.std.specs.Prelude.{nat_lt, nat_le, sum_by, count_by}
use Rattle.std.specs.List.{list_all, list_any}
use Rattle.std.proofs.lemmas.Bool.{cases_lt, cases_eq, eq-eqb, ne_eqb, and_parts, and_from, both_ways, false_from_ne_true, or_right, lt-leb, not-true}
use Rattle.std.proofs.Math.Nat.{div-add-mod}
use Rattle.std.proofs.lemmas.List.{get_or-set_same, get_or-set_other, get_or-replicate, drop_more, drop_all}
use Rattle.std.proofs.lemmas.List.Sums.{AllPass-from_list_all, list_all-from_AllPass, sum_by_more}
use Rattle.tt_list_laws.proofs.Below.{all_pass}
use Rattle.tt_list_laws.proofs.Sums.{sum_by-at_places, sum_by-same}
use Rattle.tt_list_laws.proofs.Range.{at_below}
use Rattle.tt_list_laws.proofs.Truth.{wanted, same_truth}
use Rattle.tt_bits.specs.Inner.Bits.{has_bit, bits, each_bit}
use Rattle.tt_bits.proofs.BitLaws.{each_bit_from, each_bit_at, each_bit-none, none-bit, bit_from_any}
use Rattle.tt_instance.specs.Problem.{Problem}
use Rattle.tt_instance.specs.Cells.{cell, all_slots}
use Rattle.tt_instance.specs.Courses.{excess}
use Rattle.tt_instance.specs.declared.cell.Slot.{Slot}
use Rattle.tt_path.specs.Live.{is_dead}
use Rattle.tt_path.specs.declared.facts.Fact.{Fact}
use Rattle.tt_leaf_rules.specs.Claims.{price_in, is_covered}
use Rattle.tt_leaf_rules.specs.Inner.Nested.{clear_in, covered_in, covered}
use Rattle.tt_leaf_rules.proofs.Nested.{covered_by_price}

-- a cell that is dead, or whose price is covered
dead_or : (dead le : Bool) → dead ≡ true → (not (not dead) || le) ≡ true
dead_or true le e = cc
dead_or false le e = absurd cc

-- a cell whose price isn't covered is dead
dead_from : (dead le : Bool) → le ≡ false → (not (not dead) || le) ≡ true → dead ≡ true
dead_from true le dear e = refl
dead_from false le dear e = absurd (both_ways le dear e)

module _ (p : Problem) (path : List Fact) (rooms : List (ℕ × ℕ)) (k : ℕ × ℕ) (b dear : ℕ)
    (dears : (n : ℕ) → n < 64
    → has_bit dear n ≡
    (nat_lt (b * 64 + n) (length p.rooms) && nat_lt (excess p k.0 (b * 64 + n) + price_in rooms (b * 64 + n)) k.1)) where
  -- no room that is too cheap has a live cell: then each room of the block is covered
  pub block_covered : list_all (clear_in p path k.0 b dear) (all_slots p) ≡ true → (n : ℕ) → n < 64 → b * 64 + n < length p.rooms
      → covered_in p path rooms k (b * 64 + n) ≡ true
  block_covered clear n low there =
      let r = b * 64 + n in
      elim (cases_lt (excess p k.0 r + price_in rooms r) k.1) [
        | inl cheap ↦
            let set : has_bit dear n ≡ true = dears n low ∙ and_from (nat_lt r (length p.rooms))
            (nat_lt (excess p k.0 r + price_in rooms r) k.1) (lt-ltb r (length p.rooms) there)
            (lt-ltb (excess p k.0 r + price_in rooms r) k.1 cheap) in
            list_all-from_AllPass (is_covered p path rooms k.0 k.1 r) (all_slots p) (λ i d h.
            let s : Slot = get_or (all_slots p) i d in
            let none = each_bit_at dear (λ m. not (nat_lt (b * 64 + m) (length p.rooms)) || is_dead p path (cell k.0 (b * 64 + m) s)) n low
            (AllPass-from_list_all (clear_in p path k.0 b dear) (all_slots p) clear i d h) set in
            dead_or (is_dead p path (cell k.0 r s)) (nat_le k.1 (excess p k.0 r + price_in rooms r))
            (wanted (nat_lt r (length p.rooms)) (is_dead p path (cell k.0 r s)) none (lt-ltb r (length p.rooms) there)))
        | inr enough ↦ covered_by_price p path rooms k r enough
      ]

  -- a course that is covered has no live cell in a room that is too cheap
  clear_if_covered : covered p path rooms k ≡ true → list_all (clear_in p path k.0 b dear) (all_slots p) ≡ true
  clear_if_covered all = list_all-from_AllPass (clear_in p path k.0 b dear) (all_slots p) (λ i d h.
      let s : Slot = get_or (all_slots p) i d in
      each_bit_from dear (λ m. not (nat_lt (b * 64 + m) (length p.rooms)) || is_dead p path (cell k.0 (b * 64 + m) s)) (λ n low set.
      let r = b * 64 + n in
      let cheap = and_parts (nat_lt r (length p.rooms)) (nat_lt (excess p k.0 r + price_in rooms r) k.1) (sym (dears n low) ∙ set) in
      let here = at_below (covered_in p path rooms k) (length p.rooms) r all (ltb-true r (length p.rooms) cheap.0) in
      or_right (not (nat_lt r (length p.rooms))) (is_dead p path (cell k.0 r s))
      (dead_from (is_dead p path (cell k.0 r s)) (nat_le k.1 (excess p k.0 r + price_in rooms r))
      (lt-leb k.1 (excess p k.0 r + price_in rooms r) (ltb-true (excess p k.0 r + price_in rooms r) k.1 cheap.1))
      (AllPass-from_list_all (is_covered p path rooms k.0 k.1 r) (all_slots p) here i d h))))

  -- a room that is too cheap has a live cell: then the course isn't covered
  pub block_not_covered : list_all (clear_in p path k.0 b dear) (all_slots p) ≡ false → covered p path rooms k ≡ false
  block_not_covered live = false_from_ne_true (covered p path rooms k)
      (λ all. both_ways (list_all (clear_in p path k.0 b dear) (all_slots p)) live (clear_if_covered all))

-- ---- words of a period

flip : (l d : Bool) → (l && not d) ≡ false → (not l || d) ≡ true
flip true true e = cc
flip true false e = absurd cc
flip false d e = cc

no_dead : (l d : Bool) → (l && not d) ≡ true → (not l || d) ≡ true → ⊥
no_dead true true e h = absurd cc
no_dead true false e h = absurd cc
no_dead false d e h = absurd cc

-- no room of the first word is live exactly if each of them is dead
pub clear_word : (rooms live both : ℕ) (lt dead : ℕ → Bool) → ((n : ℕ) → n < 64 → has_bit both n ≡ (has_bit rooms n && has_bit live n))
    → ((n : ℕ) → n < 64 → has_bit live n ≡ (lt n && not (dead n)))
    → not (list_any (has_bit both) bits) ≡ each_bit rooms (λ n. not (lt n) || dead n)
clear_word rooms live both lt dead boths lives = same_truth (not (list_any (has_bit both) bits))
    (each_bit rooms (λ n. not (lt n) || dead n))
    (λ none. each_bit_from rooms (λ n. not (lt n) || dead n) (λ n low set.
    flip (lt n) (dead n) (sym (lives n low) ∙ sym (ap (λ b. b && has_bit live n) set) ∙ sym (boths n low)
    ∙ none-bit both n (not-true (list_any (has_bit both) bits) none) low)))
    (λ each. ap not (false_from_ne_true (list_any (has_bit both) bits) (λ some.
    let m = bit_from_any (has_bit both) some in
    let two = and_parts (has_bit rooms m.0) (has_bit live m.0) (sym (boths m.0 m.1) ∙ m.2) in
    no_dead (lt m.0) (dead m.0) (sym (lives m.0 m.1) ∙ two.1) (each_bit_at rooms (λ n. not (lt n) || dead n) m.0 m.1 each two.0))))

-- no rooms have no live cell
pub clear_of_none : (p : Problem) (path : List Fact) (c b rooms : ℕ) → rooms ≡ 0 → list_all (clear_in p path c b rooms) (all_slots p) ≡ true
clear_of_none p path c b rooms e = all_pass (clear_in p path c b rooms) (all_slots p)
    (λ s. each_bit-none rooms (λ n. not (nat_lt (b * 64 + n) (length p.rooms)) || is_dead p path (cell c (b * 64 + n) s)) e)

-- the words of the blocks before one, and then that of this block
pub word_more : (words : List ℕ) (b w n : ℕ) (live : ℕ → Bool) → b < length words
    → ((k : ℕ) → k < 64 → has_bit w k ≡ (nat_lt (b * 64 + k) n && live (b * 64 + k)))
    → ((r : ℕ) → r < b * 64 → r < n → has_bit (get_or words (r / 64) 0) (r % 64) ≡ live r)
    → (r : ℕ) → r < (b + 1) * 64 → r < n → has_bit (get_or (set words b w) (r / 64) 0) (r % 64) ≡ live r
word_more words b w n live there own before r low in_n = elim (cases_lt r (b * 64)) [
  | inl l ↦
      ap (λ (x : ℕ). has_bit x (r % 64)) (get_or-set_other words b (r / 64) w 0 (λ e. omega (arith, l, e, div-add-mod r 64)))
      ∙ before r l in_n
  | inr h ↦
      let block : r / 64 ≡ b = omega (arith, h, low, div-add-mod r 64) in
      let number : b * 64 + r % 64 ≡ r = omega (arith, block, div-add-mod r 64) in
      ap (λ (i : ℕ). has_bit (get_or (set words b w) i 0) (r % 64)) block
      ∙ ap (λ (x : ℕ). has_bit x (r % 64)) (get_or-set_same words b w 0 there)
      ∙ own (r % 64) (omega arith) ∙ ap (λ (i : ℕ). nat_lt i n && live i) number ∙ ap (λ (x : Bool). x && live r) (lt-ltb r n in_n)
]

-- the prices of the first rooms that are live, and then that of the next room
pub paid_more : (live : ℕ → Bool) (xs : List (ℕ × ℕ)) (i total next : ℕ) (b : Bool) (d : ℕ × ℕ) → i < length xs
    → total ≡ sum_by (λ k. cond (live k.0) k.1 0) (take i xs)
    → b ≡ live (get_or xs i d).0 → next ≡ total + cond b (get_or xs i d).1 0 → next ≡ sum_by (λ k. cond (live k.0) k.1 0) (take (i + 1) xs)
paid_more live xs i total next b d there before own is =
    is ∙ ap (λ (v : Bool). total + cond v (get_or xs i d).1 0) own
    ∙ ap (λ (t : ℕ). t + cond (live (get_or xs i d).0) (get_or xs i d).1 0) before
    ∙ sym (sum_by_more (λ (k : ℕ × ℕ). cond (live k.0) k.1 0) xs i d there)

-- ---- the prices of a list, from its end

-- the price in a list that begins with an element
price_first : (xs : List (ℕ × ℕ)) (i r : ℕ) → i < length xs → price_in (drop i xs) r ≡ cond (eqb r (get_or xs i (0, 0)).0)
    (get_or xs i (0, 0)).1 (price_in (drop (i + 1) xs) r)
price_first xs i r h = ap (λ (ys : List (ℕ × ℕ)). price_in ys r) (drop_more xs i (0, 0) h)

-- a price at a number beyond the table is passed over
pub price_beyond : (prices : List ℕ) (xs : List (ℕ × ℕ)) (left : ℕ) → 0 < left → left ≤ length xs → 512 ≤ (get_or xs (left - 1) (0, 0)).0
    → ((r : ℕ) → r < 512 → get_or prices r 0 ≡ price_in (drop left xs) r) → (r : ℕ) → r < 512
    → get_or prices r 0 ≡ price_in (drop (left - 1) xs) r
price_beyond prices xs left some within beyond before r low =
    let next : left - 1 + 1 ≡ left = omega (arith, some) in
    before r low ∙ ap (λ (i : ℕ). price_in (drop i xs) r) (sym next)
    ∙ sym (price_first xs (left - 1) r (omega (arith, some, within))
    ∙ ap (λ (b : Bool). cond b (get_or xs (left - 1) (0, 0)).1 (price_in (drop (left - 1 + 1) xs) r))
    (ne_eqb r (get_or xs (left - 1) (0, 0)).0 (λ e. omega (arith, low, beyond, e))))

-- a price is written at its number
pub price_written : (prices : List ℕ) (xs : List (ℕ × ℕ)) (left : ℕ) → 0 < left → left ≤ length xs
    → (get_or xs (left - 1) (0, 0)).0 < length prices
    → ((r : ℕ) → r < 512 → get_or prices r 0 ≡ price_in (drop left xs) r)
    → (r : ℕ) → r < 512 → get_or (set prices (get_or xs (left - 1) (0, 0)).0 (get_or xs (left - 1) (0, 0)).1) r 0 ≡ price_in
    (drop (left - 1) xs) r
price_written prices xs left some within there before r low =
    let x = get_or xs (left - 1) (0, 0) in
    let next : left - 1 + 1 ≡ left = omega (arith, some) in
    elim (cases_eq r x.0) [
      | inl same ↦
          ap (λ (i : ℕ). get_or (set prices x.0 x.1) i 0) same ∙ get_or-set_same prices x.0 x.1 0 there
          ∙ sym (price_first xs (left - 1) r (omega (arith, some, within))
          ∙ ap (λ (b : Bool). cond b x.1 (price_in (drop (left - 1 + 1) xs) r)) (eq-eqb r x.0 same))
      | inr apart ↦
          get_or-set_other prices x.0 r x.1 0 apart ∙ before r low ∙ ap (λ (i : ℕ). price_in (drop i xs) r) (sym next)
          ∙ sym (price_first xs (left - 1) r (omega (arith, some, within))
          ∙ ap (λ (b : Bool). cond b x.1 (price_in (drop (left - 1 + 1) xs) r)) (ne_eqb r x.0 apart))
    ]

-- before any price is written, no element of the list is passed
pub none_priced : (xs : List (ℕ × ℕ)) (r : ℕ) → r < 512 → get_or (replicate 512 0) r 0 ≡ price_in (drop (length xs) xs) r
none_priced xs r low = get_or-replicate 512 r 0 0 low
    ∙ sym (ap (λ (ys : List (ℕ × ℕ)). price_in ys r) (drop_all (length xs) xs (omega arith)))

-- the prices paid in all periods, room by room
pub paid_by_room : {X : Type 0} (live : ℕ → X → Bool) (slots : List X) (rooms : List (ℕ × ℕ))
    → sum_by (λ k. sum_by (λ s. cond (live k.0 s) k.1 0) slots) rooms ≡ sum_by (λ k. k.1 * count_by (live k.0) slots) rooms
paid_by_room live slots rooms = sum_by-same (λ (k : ℕ × ℕ). sum_by (λ s. cond (live k.0 s) k.1 0) slots)
    (λ (k : ℕ × ℕ). k.1 * count_by (live k.0) slots) rooms
    (λ k. sum_by-at_places (live k.0) k.1 slots ∙ mul_comm (count_by (live k.0) slots) k.1)

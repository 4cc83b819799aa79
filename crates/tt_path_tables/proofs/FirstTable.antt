-- The first table: all cells, with the cells of each unavailability removed.
use Rattle.std.proofs.Common.{◌≡◌, ℕ, ◌+◌, ◌-◌, ◌*◌, ◌%◌, ◌<◌, Bool, true, false, not, ◌&&◌, ◌||◌, List, [], ◌∷◌, ◌++◌, length, take, refl, sym, ap, ◌∙◌, arith, inl, inr, subst, length-append}
use Rattle.std.specs.Prelude.{◌==◌, nat_lt, slice_get, slice_index_or, Some}
use Rattle.std.specs.List.{list_any}
use Rattle.std.proofs.lemmas.Bool.{cases_lt, lt-ltb, ltb-true, and_parts, eqb-true, false_from_ne_true, le-ltb}
use Rattle.std.proofs.lemmas.List.{take_more}
use Rattle.std.proofs.lemmas.Option.{get_or_from_slice_get}
use Rattle.std.proofs.Math.ListN.{get_or-append}
use Rattle.std.proofs.Math.Seq.{get_or-append_seam}
use Rattle.std.proofs.lemmas.List.Folds.{list_any-append}
use Rattle.std.proofs.lemmas.Nat.{mod-mul-add}
use Rattle.std.proofs.Math.Bool.{or-false, and-true}
use Rattle.tt_list_laws.proofs.Tests.{same_test}
use Rattle.tt_list_laws.proofs.Truth.{same_truth}
use Rattle.tt_list_laws.proofs.Twos.{neither}
use Rattle.tt_instance.specs.Problem.{Problem, Unavailability}
use Rattle.tt_instance.specs.declared.cell.Cell.{Cell}
use Rattle.tt_bits.specs.Inner.Bits.{has_bit}
use Rattle.tt_path_tables.specs.Inner.Words.{Bit, IsBit, width, place, size, room_of, bit_of, is_set, is_kept}
use Rattle.tt_path_tables.specs.Inner.Tables.{has_cell, Shows, Loses, is_placed}
use Rattle.tt_path_tables.specs.Inner.First.{AreFull}
use Rattle.tt_path_tables.proofs.Grid.{word_within, bit_within, room_back}

-- the unavailability is for the cell's course and period
abbrev pub unavailabilities_at : Cell → Unavailability → Bool
unavailabilities_at x b = (b.course == x.course) && (b.day == x.day) && (b.period == x.period)

abbrev pub is_open_by : List Unavailability → Cell → Bool
is_open_by unavailabilities x = not (list_any (unavailabilities_at x) unavailabilities)

-- ---- all cells

shifted_by : (k m n : ℕ) → nat_lt k (n - m) ≡ nat_lt (m + k) n
shifted_by k m n = same_truth (nat_lt k (n - m)) (nat_lt (m + k) n)
    (λ e. let l = ltb-true k (n - m) e in lt-ltb (m + k) n (omega arith))
    (λ e. let l = ltb-true (m + k) n e in lt-ltb k (n - m) (omega arith))

pub full_more : (p : Problem) (words : List ℕ) (n w m : ℕ) → AreFull p words n → m ≡ n % width p * 64
    → ((k : ℕ) → k < 64 → has_bit w k ≡ nat_lt k (length p.rooms - m)) → AreFull p (words ++ w ∷ []) (n + 1)
full_more p words n w m a e h = record {
  len = length-append words (w ∷ []) ∙ ap (λ i. i + 1) a.len;
  bits = λ i k hi hk. elim (cases_lt i n) [
    | inl l ↦ let under : i < length words = omega (arith, a.len) in
        ap (λ v. has_bit v k) (get_or-append words (w ∷ []) 0 i under) ∙ a.bits i k l hk
    | inr l ↦ let at : i ≡ length words = omega (arith, a.len) in
        let here : n ≡ i = omega (arith, a.len) in
        ap (λ j. has_bit (slice_index_or (words ++ w ∷ []) j 0) k) at ∙ ap (λ v. has_bit v k) (get_or-append_seam words w [] 0) ∙ h k hk
        ∙ shifted_by k m (length p.rooms)
        ∙ ap (λ j. nat_lt (j + k) (length p.rooms)) e ∙ ap (λ j. nat_lt (j % width p * 64 + k) (length p.rooms)) here
  ];
}

module _ (p : Problem) (full : List ℕ) (a : AreFull p full (size p)) where
  set_if_room : (b : Bit) → IsBit p b → is_set p (full ++ 0 ∷ []) b ≡ nat_lt (room_of b) (length p.rooms)
  set_if_room b h =
      let w = word_within p b h in
      let i = place p b.course b.day b.period + b.block in
      let under : i < length full = omega (arith, a.len) in
      ap (λ v. has_bit v b.number) (get_or-append full (0 ∷ []) 0 i under)
      ∙ a.bits i b.number w h.number
      ∙ ap (λ j. nat_lt (j * 64 + b.number) (length p.rooms))
      (mod-mul-add ((b.course * (p.days + 1) + b.day) * (p.periods + 1) + b.period) (width p) b.block h.block)

  pub full_table : Shows p (is_open_by []) (full ++ 0 ∷ [])
  unfolding has_cell
  full_table = record {
    table = record {
      len = length-append full (0 ∷ []) ∙ ap (λ n. n + 1) a.len;
      spare = λ b h past. set_if_room b h ∙ le-ltb (room_of b) (length p.rooms) past;
      plain = λ state b h wide inside. set_if_room b h ∙ lt-ltb (room_of b) (length p.rooms) inside;
    };
    cells = λ x h.
        ap (λ v. not (v == 1) && is_set p (full ++ 0 ∷ []) (bit_of x) && ((v == 0) || is_kept p (full ++ 0 ∷ []) x))
        (ap (λ i. slice_index_or (full ++ 0 ∷ []) i 0) (sym a.len) ∙ get_or-append_seam full 0 [] 0)
        ∙ and-true (is_set p (full ++ 0 ∷ []) (bit_of x))
        ∙ set_if_room (bit_of x) (bit_within p x h) ∙ ap (λ r. nat_lt r (length p.rooms)) (room_back x.room)
        ∙ lt-ltb x.room (length p.rooms) h.room;
  }

-- -- another unavailability

one_unavailability : (unavailabilities : List Unavailability) (b : Unavailability) (x : Cell)
    → is_open_by (unavailabilities ++ b ∷ []) x ≡ (is_open_by unavailabilities x && not (unavailabilities_at x b))
one_unavailability unavailabilities b x = ap not (list_any-append (unavailabilities_at x) unavailabilities (b ∷ [])
    ∙ ap (λ v. list_any (unavailabilities_at x) unavailabilities || v) (or-false (unavailabilities_at x b)))
    ∙ neither (list_any (unavailabilities_at x) unavailabilities) (unavailabilities_at x b)

module _ (p : Problem) (unavailabilities : List Unavailability) (b : Unavailability) (words : List ℕ)
    (a : Shows p (is_open_by unavailabilities) words) where
  pub unavailability_in : (new : List ℕ) → Loses p words (λ x. is_placed b.course b.day b.period x && true) new
      → Shows p (is_open_by (unavailabilities ++ b ∷ [])) new
  unavailability_in new l = record {
    table = l.table;
    cells = λ x h. l.cells x h ∙ ap (λ v. v && not (is_placed b.course b.day b.period x && true)) (a.cells x h)
        ∙ ap (λ v. is_open_by unavailabilities x && not v) (and-true (is_placed b.course b.day b.period x) ∙ turned x)
        ∙ sym (one_unavailability unavailabilities b x);
  }
    where
      turned : (x : Cell) → is_placed b.course b.day b.period x ≡ unavailabilities_at x b
      turned x =
          ap (λ v. v && (x.day == b.day) && (x.period == b.period)) (same_test x.course b.course b.course x.course sym sym)
          ∙ ap (λ v. (b.course == x.course) && v && (x.period == b.period)) (same_test x.day b.day b.day x.day sym sym)
          ∙ ap (λ v. (b.course == x.course) && (b.day == x.day) && v) (same_test x.period b.period b.period x.period sym sym)

  -- an unavailability whose course, day or period is out of range
  pub unavailability_out : ((b.course < length p.courses) × (b.day < p.days) × (b.period < p.periods) → ⊥)
      → Shows p (is_open_by (unavailabilities ++ b ∷ [])) words
  unavailability_out out = record {
    table = a.table;
    cells = λ x h. a.cells x h ∙ still (is_open_by unavailabilities x) (unavailabilities_at x b)
        (false_from_ne_true (unavailabilities_at x b) (λ t.
        let u = and_parts ((b.course == x.course) && (b.day == x.day)) (b.period == x.period) t in
        let v = and_parts (b.course == x.course) (b.day == x.day) u.0 in
        let i = eqb-true b.course x.course v.0 in let j = eqb-true b.day x.day v.1 in let k = eqb-true b.period x.period u.1 in
        let c = h.course in let d = h.day in let s = h.period in
        out (omega arith, omega arith, omega arith)))
        ∙ sym (one_unavailability unavailabilities b x);
  }
    where
      still : (o t : Bool) → t ≡ false → o ≡ (o && not t)
      still true t e = sym (ap not e)
      still false t e = refl

pub up_to_more : (p : Problem) (i : ℕ) (b : Unavailability) (words : List ℕ) → i < length p.unavailabilities
    → slice_get p.unavailabilities i ≡ Some b → Shows p (is_open_by (take i p.unavailabilities ++ b ∷ [])) words
    → Shows p (is_open_by (take (i + 1) p.unavailabilities)) words
up_to_more p i b words h e a = subst (λ l. Shows p (is_open_by l) words)
    (sym (take_more p.unavailabilities i b h ∙ ap (λ x. take i p.unavailabilities ++ x ∷ [])
    (get_or_from_slice_get p.unavailabilities i b b e))) a

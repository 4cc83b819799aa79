-- What words say about the cells of a course in a period.
use Rattle.std.proofs.Common.{◌≡◌, ℕ, ◌+◌, ◌*◌, ◌/◌, ◌%◌, ◌<◌, ◌≤◌, Bool, true, false, ◌&&◌, ◌||◌, List, length, refl, sym, ap, ◌∙◌, arith, inl, inr}
use Rattle.std.specs.List.{list_any, list_all}
use Rattle.std.proofs.lemmas.Bool.{cases_lt, both_ways}
use Rattle.tt_list_laws.specs.Words.{range_below}
use Rattle.tt_list_laws.proofs.Numbers.{any_below}
use Rattle.tt_list_laws.proofs.Members.{member_from_any}
use Rattle.tt_list_laws.proofs.Range.{all_below, at_below, below_member}
use Rattle.tt_list_laws.proofs.Truth.{same_truth}
use Rattle.tt_instance.specs.Problem.{Problem}
use Rattle.tt_instance.specs.Cells.{slot, cell, all_rooms}
use Rattle.tt_bits.specs.Inner.Bits.{has_bit, bits}
use Rattle.tt_bits.proofs.BitLaws.{any_bits_at, bit_from_any, all_bits_from, all_bits_at}
use Rattle.tt_path_tables.specs.Inner.Words.{width, word_at, in_force, is_plain}
use Rattle.tt_path_tables.specs.Inner.Tables.{has_cell, IsTable}
use Rattle.tt_path_tables.proofs.Grid.{room_back, block_within}
use Rattle.tt_list_laws.proofs.Grid.{block_back, number_back}

module _ (p : Problem) where
  -- a cell by its block and number
  pub cell-bit : (words : List ℕ) (c d s w k : ℕ) → k < 64 → has_cell p words (cell c (w * 64 + k) (slot d s)) ≡
      (in_force p words && has_bit (word_at p words c d s w) k && (is_plain p words || (has_bit (word_at p words c d p.periods w) k
      && (has_bit (word_at p words c p.days s w) k && has_bit (word_at p words c p.days p.periods w) k))))
  unfolding has_cell
  cell-bit words c d s w k h =
      ap (λ i. found i ((w * 64 + k) % 64)) (block_back w k h) ∙ ap (found w) (number_back w k h)
    where
      found : ℕ → ℕ → Bool
      found i n = in_force p words && has_bit (word_at p words c d s i) n
          && (is_plain p words || (has_bit (word_at p words c d p.periods i) n
          && (has_bit (word_at p words c p.days s i) n && has_bit (word_at p words c p.days p.periods i) n)))

  -- no table has a room that is out of range
  pub spare-cell : (words : List ℕ) (c d s w k : ℕ) → IsTable p words → c < length p.courses → d < p.days → s < p.periods → w < width p
      → k < 64 → length p.rooms ≤ w * 64 + k → has_cell p words (cell c (w * 64 + k) (slot d s)) ≡ false
  spare-cell words c d s w k t hc hd hs hw hk past =
      let others = is_plain p words || (has_bit (word_at p words c d p.periods w) k
      && (has_bit (word_at p words c p.days s w) k && has_bit (word_at p words c p.days p.periods w) k)) in
      cell-bit words c d s w k hk
      ∙ ap (λ b. in_force p words && b && others) (t.spare (record { course = c; day = d; period = s; block = w; number = k })
      (record { course = hc; day = omega (arith, hd); period = omega (arith, hs); block = hw; number = hk }) past)
      ∙ nothing (in_force p words) others
    where
      nothing : (b v : Bool) → (b && false && v) ≡ false
      nothing true v = refl
      nothing false v = refl

  -- ---- tests of rooms, block by block

  pub any_block : (t : ℕ → Bool) → ((w k : ℕ) → w < width p → k < 64 → length p.rooms ≤ w * 64 + k → t (w * 64 + k) ≡ false)
      → list_any (λ w. list_any (λ k. t (w * 64 + k)) bits) (range_below (width p)) ≡ list_any t (all_rooms p)
  any_block t none = same_truth (list_any (λ w. list_any (λ k. t (w * 64 + k)) bits) (range_below (width p))) (list_any t (all_rooms p))
      (λ e.
      let m = member_from_any (λ w. list_any (λ k. t (w * 64 + k)) bits) (range_below (width p)) e in
      let w = m.0 in
      let b = bit_from_any (λ k. t (w * 64 + k)) m.2 in
      let k = b.0 in
      elim (cases_lt (w * 64 + k) (length p.rooms)) [
        | inl h ↦ any_below t (length p.rooms) (w * 64 + k) h b.2
        | inr h ↦ absurd (both_ways (t (w * 64 + k)) (none w k (below_member (width p) w m.1) b.1 h) b.2)
      ])
      (λ e.
      let m = member_from_any t (all_rooms p) e in
      let r = m.0 in
      let h = below_member (length p.rooms) r m.1 in
      any_below (λ w. list_any (λ k. t (w * 64 + k)) bits) (width p) (r / 64) (block_within p r h)
      (any_bits_at (λ k. t (r / 64 * 64 + k)) (r % 64) (omega arith) (ap t (room_back r) ∙ m.2)))

  pub all_block : (t : ℕ → Bool) → ((w k : ℕ) → w < width p → k < 64 → length p.rooms ≤ w * 64 + k → t (w * 64 + k) ≡ true)
      → list_all (λ w. list_all (λ k. t (w * 64 + k)) bits) (range_below (width p)) ≡ list_all t (all_rooms p)
  all_block t each = same_truth (list_all (λ w. list_all (λ k. t (w * 64 + k)) bits) (range_below (width p))) (list_all t (all_rooms p))
      (λ e. all_below t (length p.rooms) (λ r h.
      ap t (sym (room_back r)) ∙ all_bits_at (λ k. t (r / 64 * 64 + k)) (r % 64)
      (at_below (λ w. list_all (λ k. t (w * 64 + k)) bits) (width p) (r / 64) e (block_within p r h)) (omega arith)))
      (λ e. all_below (λ w. list_all (λ k. t (w * 64 + k)) bits) (width p)
      (λ w hw. all_bits_from (λ k. t (w * 64 + k)) (λ k hk. elim (cases_lt (w * 64 + k) (length p.rooms)) [
        | inl h ↦ at_below t (length p.rooms) (w * 64 + k) e h
        | inr h ↦ each w k hw hk h
      ])))

use Rattle.std.proofs.Common.{◌≡◌, ℕ, ◌*◌, ◌/◌, ◌%◌, ◌<◌, length, slice_index_or}
use Rattle.tt_bits.specs.Inner.Bits.{has_bit}
use Rattle.tt_instance.specs.Cells.{slot}
use Rattle.tt_leaf_rules.specs.Inner.Nested.{priced_live_in}
use Rattle.tt_leaf_rules.proofs.prices.open_words.Given as goal

abbrev pub invariant-loop-block : goal.invariant-loop-block
invariant-loop-block g l =
    let p = g.P.Path.problem l.path in
    record {
      len : length l.words ≡ 8;
      before : (r : ℕ) → r < l.block * 64 → r < length p.rooms → has_bit (slice_index_or l.words (r / 64) 0) (r % 64) ≡ priced_live_in p
          (g.P.Path.facts l.path) l.courses r (slot l.day l.period);
    }

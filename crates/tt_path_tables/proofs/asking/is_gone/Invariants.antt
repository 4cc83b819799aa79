use Rattle.std.proofs.Common.{◌≡◌, ℕ, ◌<◌, false}
use Rattle.tt_bits.specs.Inner.Bits.{has_bit}
use Rattle.tt_path_tables.specs.Inner.Words.{word_at}
use Rattle.tt_path_tables.proofs.asking.is_gone.Given as goal

abbrev pub invariant-loop-block : goal.invariant-loop-block
invariant-loop-block l = (w k : ℕ) → w < l.block → k < 64
    → has_bit (word_at l.instance l.table.words l.course l.instance.days l.instance.periods w) k ≡ false

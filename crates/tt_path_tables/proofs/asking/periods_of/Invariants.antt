use Rattle.std.proofs.Common.{◌≡◌, ℕ, ◌<◌, ◌&&◌, None}
use Rattle.std.specs.Prelude.{nat_lt}
use Rattle.std.specs.List.{list_any}
use Rattle.tt_instance.specs.Cells.{all_rooms}
use Rattle.tt_bits.specs.Inner.Bits.{has_bit}
use Rattle.tt_path_tables.specs.Inner.Tables.{is_open}
use Rattle.tt_path_tables.proofs.asking.periods_of.Given as goal

abbrev pub invariant-loop-period : goal.invariant-loop-period
invariant-loop-period l = (s : ℕ) → s < 64
    → has_bit l.periods s ≡ (nat_lt s l.period && list_any (is_open l.instance l.table.words None l.course l.day s) (all_rooms l.instance))

use Rattle.std.proofs.Common.{◌≡◌, ℕ, ◌+◌, ◌*◌, not, ◌||◌}
use Rattle.std.specs.Prelude.{◌==◌}
use Rattle.std.specs.List.{list_all}
use Rattle.tt_list_laws.specs.Words.{range_below}
use Rattle.tt_bits.specs.Inner.Bits.{bits}
use Rattle.tt_path_tables.specs.Inner.Rooms.{has_room}
use Rattle.tt_path_tables.specs.Inner.Tables.{is_open}
use Rattle.tt_path_tables.proofs.asking.common_rooms.Given as goal

abbrev pub invariant-loop-block : goal.invariant-loop-block
invariant-loop-block l =
    let spot = l.spot in
    (r : ℕ) → has_room l.common r ≡ list_all
    (λ w. list_all (λ k. not (is_open l.instance l.table.words spot.room spot.course spot.slot.day spot.slot.period (w * 64 + k))
    || (w * 64 + k == r)) bits)
    (range_below l.block)

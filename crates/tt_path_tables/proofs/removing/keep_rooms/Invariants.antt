use Rattle.std.proofs.Common.{◌≡◌, ◌+◌, ◌*◌, not, ◌&&◌}
use Rattle.std.specs.Prelude.{nat_lt}
use Rattle.tt_path_tables.specs.Inner.Tables.{is_open}
use Rattle.tt_path_tables.specs.Inner.Words.{is_here, Drops}
use Rattle.tt_path_tables.proofs.removing.keep_rooms.Given as goal

abbrev pub invariant-loop-block : goal.invariant-loop-block
invariant-loop-block l =
    let spot = l.spot in
    record {
      drops : Drops l.instance l.fn.table.words l.table.words
          (λ b. is_here spot.course spot.slot.day spot.slot.period b && nat_lt b.block l.block && not
          (is_open l.instance l.kept.words spot.room spot.course spot.slot.day spot.slot.period (b.block * 64 + b.number)));
      earlier : l.table.earlier ≡ l.fn.table.earlier;
    }

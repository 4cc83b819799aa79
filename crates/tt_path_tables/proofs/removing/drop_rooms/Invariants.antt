use Rattle.std.proofs.Common.{◌≡◌, ◌&&◌}
use Rattle.std.specs.Prelude.{nat_lt}
use Rattle.tt_path.specs.Facts.{agrees}
use Rattle.tt_path_tables.specs.Inner.Words.{room_of, is_here, Drops}
use Rattle.tt_path_tables.proofs.removing.drop_rooms.Given as goal

abbrev pub invariant-loop-block : goal.invariant-loop-block
invariant-loop-block l = record {
  drops : Drops l.instance l.fn.table.words l.table.words (λ b. is_here l.course l.slot.day l.slot.period b &&
      nat_lt b.block l.block && agrees l.room (room_of b));
  earlier : l.table.earlier ≡ l.fn.table.earlier;
}

use Rattle.std.proofs.Common.{◌≡◌, not, ◌&&◌}
use Rattle.std.specs.Prelude.{◌==◌, nat_lt}
use Rattle.tt_path_tables.specs.Inner.Tables.{Loses}
use Rattle.tt_path_tables.proofs.killing.strike_room.Given as goal

abbrev pub invariant-loop-other : goal.invariant-loop-other
invariant-loop-other l = record {
  loses : Loses l.instance l.fn.live.words
      (λ x. nat_lt x.course l.other &&
      ((x.day == l.slot.day) && (x.period == l.slot.period) && (not (x.course == l.course) && (l.room == x.room)))) l.live.words;
  earlier : l.live.earlier ≡ l.fn.live.earlier;
}

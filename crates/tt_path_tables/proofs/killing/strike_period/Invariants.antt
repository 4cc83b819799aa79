use Rattle.std.proofs.Common.{◌≡◌, ◌&&◌, take}
use Rattle.std.specs.Prelude.{◌==◌}
use Rattle.tt_list_laws.specs.Words.{has_number}
use Rattle.tt_path_tables.specs.Inner.Tables.{Loses}
use Rattle.tt_path_tables.proofs.killing.strike_period.Given as goal

abbrev pub invariant-loop-course : goal.invariant-loop-course
invariant-loop-course l = record {
  loses : Loses l.instance l.fn.live.words
      (λ x. has_number (take l.course-index l.courses) x.course && ((x.day == l.slot.day) && (x.period == l.slot.period))) l.live.words;
  earlier : l.live.earlier ≡ l.fn.live.earlier;
}

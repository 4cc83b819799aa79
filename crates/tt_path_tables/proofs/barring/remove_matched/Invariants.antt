use Rattle.std.proofs.Common.{◌≡◌, ◌&&◌, take}
use Rattle.tt_list_laws.specs.Words.{has_number}
use Rattle.tt_path.specs.Inner.Nested.{has_place_of}
use Rattle.tt_path_tables.specs.Inner.Tables.{Loses}
use Rattle.tt_path_tables.proofs.barring.remove_matched.Given as goal

abbrev pub invariant-loop-course : goal.invariant-loop-course
invariant-loop-course l = record {
  loses : Loses l.instance l.fn.table.words (λ x. has_number (take l.course-index l.course-items) x.course && has_place_of l.pattern x)
      l.table.words;
  earlier : l.table.earlier ≡ l.fn.table.earlier;
}

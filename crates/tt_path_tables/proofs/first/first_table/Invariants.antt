use Rattle.std.proofs.Common.{◌≡◌, [], take}
use Rattle.tt_path_tables.specs.Inner.Tables.{Shows}
use Rattle.tt_path_tables.proofs.FirstTable.{is_open_by}
use Rattle.tt_path_tables.proofs.first.first_table.Given as goal

abbrev pub invariant-loop-index : goal.invariant-loop-index
invariant-loop-index l = record {
  shows : Shows l.instance (is_open_by (take l.index l.instance.unavailabilities)) l.table.words;
  earlier : l.table.earlier ≡ [];
}

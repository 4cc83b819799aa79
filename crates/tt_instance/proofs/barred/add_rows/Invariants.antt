use Rattle.std.proofs.Common.{◌≡◌, ◌++◌, length, take}
use Rattle.tt_instance.specs.Seen.{unavailabilities_seen}
use Rattle.tt_instance.specs.Inner.Indexed.{IsBarred}
use Rattle.tt_instance.proofs.barred.add_rows.Given as goal

abbrev pub invariant-loop-row : goal.invariant-loop-row
invariant-loop-row l = record {
  long : length l.list.marks.items ≡ length l.fn.list.marks.items;
  rows : unavailabilities_seen l.list.rows.items ≡ unavailabilities_seen l.fn.list.rows.items
      ++ unavailabilities_seen (take l.row-index l.rows);
  barred : IsBarred (length l.fn.list.marks.items) l.days l.list;
}

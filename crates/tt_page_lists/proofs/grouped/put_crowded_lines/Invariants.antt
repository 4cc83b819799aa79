use Rattle.std.proofs.Common.{◌≡◌, All}
use Rattle.std.specs.Prelude.{flat_map}
use Rattle.tt_instance.specs.Cells.{InRange}
use Rattle.tt_page_text.specs.Puts.{put_text}
use Rattle.tt_page_lists.specs.Grouped.{crowded_line}
use Rattle.tt_page_lists.proofs.grouped.put_crowded_lines.Given as goal

abbrev pub invariant-loop-entry : goal.invariant-loop-entry
invariant-loop-entry l = record {
  text : put_text l.out (flat_map (crowded_line l.instance l.labels) l.entry-iterator) ≡ put_text l.fn.out
      (flat_map (crowded_line l.instance l.labels) l.fn.entries);
  left : All (InRange l.instance) l.entry-iterator;
}

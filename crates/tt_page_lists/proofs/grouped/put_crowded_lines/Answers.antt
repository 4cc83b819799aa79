use Rattle.std.proofs.Common.{All, subst}
use Rattle.std.proofs.lemmas.List.Elements.{All-tail}
use Rattle.tt_instance.specs.Cells.{InRange}
use Rattle.tt_page_text.proofs.Growing.{text_ahead}
use Rattle.tt_page_lists.specs.Grouped.{crowded_line}
use Rattle.tt_page_lists.proofs.grouped.put_crowded_lines.Goals as goal

pub loop-entry-preserved : goal.loop-entry-preserved
loop-entry-preserved c =
    let p = c.args.instance.now in
    let e = c.in-Some.entry.now in
    let first = c.in-Some.ensures.steps in record {
      text = text_ahead (crowded_line p c.args.labels.now) e c.next.new.self c.loop-entry.entry-iterator _ c.loop-entry.out
          c.put_crowded_line.new.out first c.put_crowded_line.ensures c.loop-entry.invariant.text;
      left = All-tail (InRange p) e c.next.new.self (subst (All (InRange p)) first c.loop-entry.invariant.left);
    }

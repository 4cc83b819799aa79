use Rattle.std.proofs.Common.{All, subst, sym, ◌∙◌}
use Rattle.std.proofs.lemmas.List.Elements.{All-tail}
use Rattle.tt_instance.specs.Cells.{InRange}
use Rattle.tt_report.proofs.Written.{entries_begun, entry_shown, entry_passed}
use Rattle.tt_report.proofs.reports.put_entries.Goals as goal

pub loop-entry-init : goal.loop-entry-init
loop-entry-init g c =
    let all = c.into_iter-entry-iterator.ensures.into_iter_gives in
    record {
      text = entries_begun g.W.Sink.contents g.W.Sink.has_failed c.args.instance.now c.args.block c.args.out.now c.args.entries
          c.into_iter-entry-iterator.result all;
      left = subst (All (InRange c.args.instance.now)) (sym all) c.requires.in_range;
    }

pub loop-entry-preserved-then-has : goal.loop-entry-preserved-then-has
loop-entry-preserved-then-has g c =
    let p = c.args.instance.now in
    let e = c.in-Some.entry.now in
    let first = c.in-Some.ensures.steps in
    record {
      text = entry_shown g.W.Sink.contents g.W.Sink.has_failed p c.args.block e c.next.new.self c.loop-entry.entry-iterator c.args.entries
          c.args.out.now c.loop-entry.out c.put_entry.new.out first (sym c.has.ensures ∙ c.if-has.true) c.loop-entry.invariant.text
          c.put_entry.ensures;
      left = All-tail (InRange p) e c.next.new.self (subst (All (InRange p)) first c.loop-entry.invariant.left);
    }

pub loop-entry-preserved : goal.loop-entry-preserved
loop-entry-preserved g c =
    let p = c.args.instance.now in
    let e = c.in-Some.entry.now in
    let first = c.in-Some.ensures.steps in
    record {
      text = entry_passed g.W.Sink.contents g.W.Sink.has_failed p c.args.block e c.next.new.self c.loop-entry.entry-iterator c.args.entries
          c.args.out.now c.loop-entry.out first (sym c.has.ensures ∙ c.if-has.false) c.loop-entry.invariant.text;
      left = All-tail (InRange p) e c.next.new.self (subst (All (InRange p)) first c.loop-entry.invariant.left);
    }

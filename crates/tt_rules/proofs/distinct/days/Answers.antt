use Rattle.std.proofs.Common.{All, subst}
use Rattle.std.specs.List.{list_any}
use Rattle.std.proofs.lemmas.List.Elements.{All-tail}
use Rattle.tt_instance.specs.Cells.{InRange, is_on}
use Rattle.tt_rules.proofs.Marking.{marks_more}
use Rattle.tt_rules.proofs.distinct.days.Goals as goal

pub loop-entry-preserved : goal.loop-entry-preserved
loop-entry-preserved c =
    let before = c.loop-entry.invariant in
    let first = c.in-Some.ensures.steps in
    record {
      marks = marks_more is_on (λ k. list_any (is_on k) c.args.group) c.loop-entry.marks c.add.new.self c.in-Some.entry.now
          c.next.new.self c.loop-entry.entry-iterator first c.add.ensures before.marks;
      left = All-tail (InRange c.args.instance.now) c.in-Some.entry.now c.next.new.self
          (subst (All (InRange c.args.instance.now)) first before.left);
    }

use Rattle.std.proofs.Common.{◌≡◌, ℕ, ◌+◌, ◌*◌, Bool, false, ◌||◌, All, slice_index_or, subst, ap, ◌∙◌}
use Rattle.std.specs.Prelude.{◌==◌}
use Rattle.std.specs.List.{list_any}
use Rattle.std.proofs.lemmas.List.Elements.{All-tail}
use Rattle.tt_instance.specs.Cells.{InRange}
use Rattle.tt_instance.specs.declared.cell.Cell.{Cell}
use Rattle.tt_rules.proofs.Marking.{marks_more, marks_counted}
use Rattle.tt_rules.proofs.Numbering.{periods_numbered}
use Rattle.tt_rules.proofs.distinct.periods.Goals as goal

pub loop-entry-preserved : goal.loop-entry-preserved
loop-entry-preserved c =
    let at : ℕ → Cell → Bool = λ k e. e.day * c.args.instance.now.periods + e.period == k in
    let entry = c.in-Some.entry.now in
    let before = c.loop-entry.invariant in
    let first = c.in-Some.ensures.steps in
    let added : (k : ℕ) → slice_index_or c.add.new.self k false ≡ (slice_index_or c.loop-entry.marks k false || at k entry) =
    λ k. c.add.ensures k ∙ ap (λ n. slice_index_or c.loop-entry.marks k false || (n == k)) c.number.ensures.value in
    record {
      marks = marks_more at (λ k. list_any (at k) c.args.group) c.loop-entry.marks c.add.new.self entry c.next.new.self
          c.loop-entry.entry-iterator first added before.marks;
      left = All-tail (InRange c.args.instance.now) entry c.next.new.self (subst (All (InRange c.args.instance.now)) first before.left);
    }

pub returns-clause-count : goal.returns-clause-count
returns-clause-count c =
    let at : ℕ → Cell → Bool = λ k e. e.day * c.args.instance.now.periods + e.period == k in
    marks_counted at (λ k. list_any (at k) c.args.group) c.loop-entry.marks c.loop-entry.entry-iterator c.in_week.result c.count.result
    c.in-None.ensures.steps.0 c.loop-entry.invariant.marks c.count.ensures.count
    ∙ periods_numbered c.args.instance.now c.args.group c.in_week.result c.requires c.in_week.ensures.value

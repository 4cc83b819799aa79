use Rattle.std.proofs.Common.{◌≡◌, ℕ, Bool, false, ◌||◌, All, slice_index_or, subst, ap, ◌∙◌}
use Rattle.std.specs.Prelude.{◌==◌}
use Rattle.std.specs.List.{list_any}
use Rattle.std.proofs.lemmas.List.Elements.{All-head, All-tail}
use Rattle.tt_instance.specs.Cells.{InRange}
use Rattle.tt_instance.specs.declared.cell.Cell.{Cell}
use Rattle.tt_rules.specs.Inner.Places.{place_of}
use Rattle.tt_rules.proofs.Marking.{marks_more}
use Rattle.tt_rules.proofs.compactness.mark_places.Goals as goal

pub add-requires : goal.add-requires
add-requires c =
    let p = c.args.instance.now in
    c.place.ensures.at_most
    (All-head (InRange p) c.in-Some.entry.now c.next.new.self
    (subst (All (InRange p)) c.in-Some.ensures.steps c.loop-entry.invariant.left))

pub loop-entry-preserved : goal.loop-entry-preserved
loop-entry-preserved c =
    let p = c.args.instance.now in
    let at : ℕ → Cell → Bool = λ k e. place_of p e == k in
    let entry = c.in-Some.entry.now in
    let before = c.loop-entry.invariant in
    let first = c.in-Some.ensures.steps in
    let added : (k : ℕ) → slice_index_or c.add.new.self k false ≡ (slice_index_or c.loop-entry.marks k false || at k entry) =
    λ k. c.add.ensures k ∙ ap (λ n. slice_index_or c.loop-entry.marks k false || (n == k)) c.place.ensures.value in
    record {
      marks = marks_more at (λ k. slice_index_or c.args.marks.now k false || list_any (at k) c.args.group) c.loop-entry.marks
          c.add.new.self entry c.next.new.self c.loop-entry.entry-iterator first added before.marks;
      left = All-tail (InRange p) entry c.next.new.self (subst (All (InRange p)) first before.left);
    }

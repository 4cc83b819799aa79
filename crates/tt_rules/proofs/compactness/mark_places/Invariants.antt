use Rattle.std.proofs.Common.{All, ◌||◌, false, slice_index_or}
use Rattle.std.specs.Prelude.{◌==◌}
use Rattle.std.specs.List.{list_any}
use Rattle.tt_instance.specs.Cells.{InRange}
use Rattle.tt_rules.specs.Inner.Places.{place_of}
use Rattle.tt_rules.proofs.Marking.{MarksTo}
use Rattle.tt_rules.proofs.compactness.mark_places.Given as goal

abbrev pub invariant-loop-entry : goal.invariant-loop-entry
invariant-loop-entry l = record {
  marks : MarksTo (λ k e. place_of l.instance e == k)
      (λ k. slice_index_or l.fn.marks k false || list_any (λ e. place_of l.instance e == k) l.fn.group) l.marks l.entry-iterator;
  left : All (InRange l.instance) l.entry-iterator;
}

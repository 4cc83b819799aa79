use Rattle.std.proofs.Common.{◌≡◌, ◌≤◌, false, slice_index_or}
use Rattle.std.specs.Prelude.{count_by}
use Rattle.tt_list_laws.specs.Words.{range_below}
use Rattle.tt_rules.proofs.marks.Marks.count.Given as goal

abbrev pub invariant-loop-place : goal.invariant-loop-place
invariant-loop-place l = record {
  counted : l.total ≡ count_by (λ k. slice_index_or l.self-inside.places k false) (range_below l.place);
  at_most : l.total ≤ l.place;
}

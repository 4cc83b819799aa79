use Rattle.std.proofs.Common.{◌≡◌, ℕ, ◌<◌, ◌≤◌, false, [], length, replicate, slice_index_or}
use Rattle.tt_plans_slots.proofs.tables.clear_sets.Given as goal

abbrev pub invariant-loop-slot : goal.invariant-loop-slot
invariant-loop-slot l = record {
  len : length l.sets.items ≡ length l.fn.sets.items;
  before : (s : ℕ) → s < l.slot → slice_index_or l.sets.items s [] ≡ replicate l.courses false;
  after : (s : ℕ) → l.slot ≤ s → slice_index_or l.sets.items s [] ≡ slice_index_or l.fn.sets.items s [];
}

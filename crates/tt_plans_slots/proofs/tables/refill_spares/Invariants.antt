use Rattle.std.proofs.Common.{◌≡◌, ℕ, ◌<◌, ◌≤◌, [], length, slice_index_or}
use Rattle.tt_plans_slots.specs.Inner.Spares.{IsFull}
use Rattle.tt_plans_slots.proofs.tables.refill_spares.Given as goal

abbrev pub invariant-loop-slot : goal.invariant-loop-slot
invariant-loop-slot l = record {
  len : length l.spares.items ≡ length l.fn.spares.items;
  before : (s : ℕ) → s < l.slot → IsFull l.rooms (slice_index_or l.spares.items s []);
  after : (s : ℕ) → l.slot ≤ s → slice_index_or l.spares.items s [] ≡ slice_index_or l.fn.spares.items s [];
}

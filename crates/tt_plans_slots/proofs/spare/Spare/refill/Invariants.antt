use Rattle.std.proofs.Common.{◌≡◌, ℕ, ◌+◌, ◌<◌, length, slice_index}
use Rattle.tt_plans_slots.proofs.spare.Spare.refill.Given as goal

abbrev pub invariant-loop-level : goal.invariant-loop-level
invariant-loop-level l = record {
  len : length l.self-inside.levels.items ≡ length l.initial.self-inside.levels.items;
  each : (k : ℕ) → k < l.level → slice_index l.self-inside.levels.items k ≡ k + 1;
}

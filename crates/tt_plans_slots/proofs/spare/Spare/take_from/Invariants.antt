use Rattle.std.proofs.Common.{◌≡◌, ℕ, ◌-◌, ◌<◌, ◌≤◌, cond, length, slice_index}
use Rattle.std.specs.Prelude.{nat_le}
use Rattle.tt_plans_slots.proofs.spare.Spare.take_from.Given as goal

abbrev pub invariant-loop-place : goal.invariant-loop-place
invariant-loop-place l = record {
  len : length l.self-inside.levels.items ≡ length l.initial.self-inside.levels.items;
  before : (k : ℕ) → k < l.place
      → slice_index l.self-inside.levels.items k ≡ slice_index l.initial.self-inside.levels.items k - cond (nat_le l.level k) 1 0;
  after : (k : ℕ) → l.place ≤ k → slice_index l.self-inside.levels.items k ≡ slice_index l.initial.self-inside.levels.items k;
}

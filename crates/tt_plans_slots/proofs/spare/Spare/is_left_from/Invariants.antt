use Rattle.std.proofs.Common.{ℕ, ◌<◌, ◌≤◌, slice_index}
use Rattle.tt_plans_slots.proofs.spare.Spare.is_left_from.Given as goal

abbrev pub invariant-loop-place : goal.invariant-loop-place
invariant-loop-place l = (k : ℕ) → l.level ≤ k → k < l.place → 0 < slice_index l.self-inside.levels.items k

use Rattle.std.proofs.Common.{◌≡◌, ℕ, ◌<◌, length, slice_index}
use Rattle.tt_plans_slots.specs.Levels.{level}
use Rattle.tt_plans_slots.proofs.levels.levels_of.Given as goal

abbrev pub invariant-loop-course : goal.invariant-loop-course
invariant-loop-course l = record {
  len : length l.levels.items ≡ l.course;
  each : (c : ℕ) → c < l.course → slice_index l.levels.items c ≡ level l.instance c;
}

use Rattle.std.proofs.Common.{◌≡◌, ℕ, ◌<◌, ◌≤◌}
use Rattle.tt_instance.specs.Courses.{excess}
use Rattle.tt_plans_slots.proofs.levels.fewest_missing.Given as goal

abbrev pub invariant-loop-room : goal.invariant-loop-room
invariant-loop-room l = record {
  least : (r : ℕ) → r < l.room → l.least ≤ excess l.instance l.course r;
  there : (r : ℕ) × (r < l.room) × (excess l.instance l.course r ≡ l.least);
}

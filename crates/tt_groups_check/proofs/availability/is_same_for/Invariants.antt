use Rattle.std.proofs.Common.{◌≡◌, ℕ, ◌<◌}
use Rattle.tt_instance.specs.Courses.{unavailable}
use Rattle.tt_groups_check.proofs.availability.is_same_for.Given as goal

abbrev pub invariant-loop-period : goal.invariant-loop-period
invariant-loop-period l = (s : ℕ) → s < l.period → unavailable l.instance l.course l.day s ≡ unavailable l.instance l.course l.other s

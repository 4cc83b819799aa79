use Rattle.std.proofs.Common.{◌≡◌, ℕ, not, ◌&&◌, length, nat_lt}
use Rattle.std.specs.Prelude.{◌==◌}
use Rattle.tt_instance.specs.Inner.Indexed.{mark_at, IsSquare}
use Rattle.tt_instance_read.proofs.conflicts.clear_own.Given as goal

abbrev pub invariant-loop-course : goal.invariant-loop-course
invariant-loop-course l = record {
  len : length l.rows.items ≡ length l.fn.rows.items;
  square : IsSquare l.rows.items;
  marked : (a b : ℕ) → mark_at l.rows.items a b ≡ (not ((a == b) && nat_lt a l.course) && mark_at l.fn.rows.items a b);
}

use Rattle.std.proofs.Common.{◌≡◌, ℕ, ◌&&◌, ◌||◌, length, take}
use Rattle.std.specs.List.{list_any}
use Rattle.tt_list_laws.specs.Words.{has_number}
use Rattle.tt_instance.specs.Inner.Indexed.{mark_at, IsSquare}
use Rattle.tt_instance_read.proofs.conflicts.add_curricula.Given as goal

abbrev pub invariant-loop-curriculum : goal.invariant-loop-curriculum
invariant-loop-curriculum l = record {
  len : length l.rows.items ≡ length l.fn.rows.items;
  square : IsSquare l.rows.items;
  marked : (a b : ℕ)
      → mark_at l.rows.items a b ≡
      (mark_at l.fn.rows.items a b || list_any (λ q. has_number q.members.courses.items a && has_number q.members.courses.items b)
      (take l.curriculum-index l.curricula));
}

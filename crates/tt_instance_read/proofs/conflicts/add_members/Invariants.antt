use Rattle.std.proofs.Common.{◌≡◌, ℕ, ◌&&◌, ◌||◌, length, take}
use Rattle.tt_list_laws.specs.Words.{has_number}
use Rattle.tt_instance.specs.Inner.Indexed.{mark_at, IsSquare}
use Rattle.tt_instance_read.proofs.conflicts.add_members.Given as goal

abbrev pub invariant-loop-member : goal.invariant-loop-member
invariant-loop-member l = record {
  len : length l.rows.items ≡ length l.fn.rows.items;
  square : IsSquare l.rows.items;
  marked : (a b : ℕ)
      → mark_at l.rows.items a b ≡
      (mark_at l.fn.rows.items a b || (has_number (take l.member-index l.members.courses.items) a && has_number l.members.courses.items b));
}

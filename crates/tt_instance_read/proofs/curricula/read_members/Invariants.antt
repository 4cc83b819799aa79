use Rattle.std.proofs.Common.{◌≡◌, ◌-◌, length, []}
use Rattle.tt_instance_read.specs.Reading.{members_at}
use Rattle.tt_instance.specs.Inner.Indexed.{IsMarked}
use Rattle.tt_instance_read.proofs.curricula.read_members.Given as goal

abbrev pub invariant-loop : goal.invariant-loop
invariant-loop l = record {
  read : members_at l.end l.ids (l.count - l.counter) l.list.courses.items l.tokens ≡ members_at l.end l.ids l.count [] l.fn.tokens;
  marked : IsMarked (length l.ids) l.list;
}

use Rattle.std.proofs.Common.{◌≡◌, ◌-◌, length, []}
use Rattle.tt_instance_read.specs.Reading.{courses_at}
use Rattle.tt_instance.specs.Seen.{courses_seen}
use Rattle.tt_instance_read.specs.Inner.Named.{AreCoursesNamed}
use Rattle.tt_instance_read.proofs.courses.read_courses.Given as goal

abbrev pub invariant-loop : goal.invariant-loop
invariant-loop l = record {
  read : courses_at l.end (l.count - l.counter) (courses_seen l.list.rows.items) l.tokens ≡ courses_at l.end l.count [] l.fn.tokens;
  indexed : AreCoursesNamed l.list;
  len : length l.list.rows.items ≡ l.counter;
}

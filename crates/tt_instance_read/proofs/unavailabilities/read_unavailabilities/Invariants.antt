use Rattle.std.proofs.Common.{◌≡◌, ◌-◌, length, []}
use Rattle.tt_instance_read.specs.Reading.{unavailabilities_at}
use Rattle.tt_instance.specs.Seen.{unavailabilities_seen}
use Rattle.tt_instance.specs.Inner.Indexed.{IsBarred}
use Rattle.tt_instance_read.proofs.unavailabilities.read_unavailabilities.Given as goal

abbrev pub invariant-loop : goal.invariant-loop
invariant-loop l = record {
  read : unavailabilities_at l.fn.end l.ids l.header.days l.header.periods (l.header.unavailabilities - l.counter)
      (unavailabilities_seen l.list.rows.items) l.tokens ≡ unavailabilities_at l.fn.end l.ids l.header.days l.header.periods
      l.header.unavailabilities [] l.fn.tokens;
  barred : IsBarred (length l.ids) l.header.days l.list;
}

use Rattle.std.proofs.Common.{◌≡◌, ◌-◌, length, []}
use Rattle.tt_instance_read.specs.Reading.{curricula_at}
use Rattle.tt_instance.specs.Seen.{curricula_seen}
use Rattle.tt_instance_read.specs.Inner.Named.{AreCurriculaNamed}
use Rattle.tt_instance_read.proofs.curricula.read_curricula.Given as goal

abbrev pub invariant-loop : goal.invariant-loop
invariant-loop l = record {
  read : curricula_at l.end l.ids (l.count - l.counter) (curricula_seen l.list.rows.items) l.tokens ≡ curricula_at l.end l.ids l.count
      [] l.fn.tokens;
  indexed : AreCurriculaNamed (length l.ids) l.list;
}

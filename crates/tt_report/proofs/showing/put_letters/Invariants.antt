use Rattle.std.specs.Prelude.{flat_map}
use Rattle.tt_report.specs.Puts.{Puts}
use Rattle.tt_report.specs.Names.{letter_text}
use Rattle.tt_report.proofs.showing.put_letters.Given as goal

abbrev pub invariant-loop-letter : goal.invariant-loop-letter
invariant-loop-letter g l = Puts g.W.Sink.contents g.W.Sink.has_failed l.initial.out l.out (flat_map letter_text l.yielded)

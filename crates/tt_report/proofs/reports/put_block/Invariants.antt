use Rattle.std.specs.Prelude.{flat_map}
use Rattle.tt_list_laws.specs.Words.{range_below}
use Rattle.tt_report.specs.Puts.{Puts}
use Rattle.tt_report.specs.Inner.Blocks.{day_text}
use Rattle.tt_report.proofs.reports.put_block.Given as goal

abbrev pub invariant-loop-day : goal.invariant-loop-day
invariant-loop-day g l = Puts g.W.Sink.contents g.W.Sink.has_failed l.initial.out l.out
    (flat_map (day_text l.instance l.by_period.entries l.block) (range_below l.day))

use Rattle.std.specs.Prelude.{flat_map}
use Rattle.tt_list_laws.specs.Words.{range_below}
use Rattle.tt_instance.specs.Cells.{slot}
use Rattle.tt_report.specs.Puts.{Puts}
use Rattle.tt_report.specs.Inner.Blocks.{slot_text}
use Rattle.tt_report.proofs.reports.put_day.Given as goal

abbrev pub invariant-loop-period : goal.invariant-loop-period
invariant-loop-period g l = Puts g.W.Sink.contents g.W.Sink.has_failed l.initial.out l.out
    (flat_map (λ s. slot_text l.instance l.by_period.entries l.block (slot l.day s)) (range_below l.period))

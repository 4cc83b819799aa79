use Rattle.std.specs.Prelude.{flat_map}
use Rattle.tt_list_laws.specs.Words.{range_below}
use Rattle.tt_report.specs.Puts.{Puts}
use Rattle.tt_report.specs.Inner.Blocks.{block_text}
use Rattle.tt_report.specs.declared.blocks.Block.TheVariants as of
use Rattle.tt_report.proofs.reports.put_curricula.Given as goal

abbrev pub invariant-loop-curriculum : goal.invariant-loop-curriculum
invariant-loop-curriculum g l = Puts g.W.Sink.contents g.W.Sink.has_failed l.initial.out l.out
    (flat_map (λ q. block_text l.instance l.by_period.entries (of.Curriculum q)) (range_below l.curriculum))

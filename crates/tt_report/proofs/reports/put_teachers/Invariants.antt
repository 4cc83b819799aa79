use Rattle.std.specs.Prelude.{flat_map}
use Rattle.tt_list_laws.specs.Words.{range_below}
use Rattle.tt_report.specs.Puts.{Puts}
use Rattle.tt_report.specs.Inner.Blocks.{block_text}
use Rattle.tt_report.specs.declared.blocks.Block.TheVariants as of
use Rattle.tt_report.proofs.reports.put_teachers.Given as goal

abbrev pub invariant-loop-teacher : goal.invariant-loop-teacher
invariant-loop-teacher g l = Puts g.W.Sink.contents g.W.Sink.has_failed l.initial.out l.out
    (flat_map (λ k. block_text l.instance l.by_period.entries (of.Teacher k)) (range_below l.teacher))

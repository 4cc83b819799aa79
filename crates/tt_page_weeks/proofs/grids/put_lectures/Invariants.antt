use Rattle.std.proofs.Common.{◌≡◌, All}
use Rattle.std.specs.Prelude.{flat_map, filter}
use Rattle.tt_instance.specs.Cells.{InRange}
use Rattle.tt_page_text.specs.Kinds.{belongs_to}
use Rattle.tt_page_text.specs.Puts.{put_text}
use Rattle.tt_page_weeks.specs.Lectures.{lecture_text}
use Rattle.tt_page_weeks.proofs.grids.put_lectures.Given as goal

abbrev pub invariant-loop-entry : goal.invariant-loop-entry
invariant-loop-entry l = record {
  text : put_text l.out (flat_map (lecture_text l.plan.problem l.plan.table l.view.labels.now l.view.is_linked l.kind l.number)
      (filter (belongs_to l.plan.problem l.kind l.number) l.entry-iterator)) ≡ put_text l.fn.out
      (flat_map (lecture_text l.plan.problem l.plan.table l.view.labels.now l.view.is_linked l.kind l.number)
      (filter (belongs_to l.plan.problem l.kind l.number) l.fn.entries));
  left : All (InRange l.plan.problem) l.entry-iterator;
}

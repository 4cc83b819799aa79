use Rattle.std.proofs.Common.{◌≡◌}
use Rattle.std.specs.Prelude.{flat_map}
use Rattle.tt_list_laws.specs.Words.{range_below}
use Rattle.tt_page_text.specs.Puts.{put_text}
use Rattle.tt_page_weeks.specs.Grids.{row_text}
use Rattle.tt_page_weeks.proofs.grids.put_rows.Given as goal

abbrev pub invariant-loop-period : goal.invariant-loop-period
invariant-loop-period l = l.out ≡ put_text l.initial.out (flat_map
    (row_text l.plan.problem l.plan.table l.view.labels.now l.view.is_linked l.grid.kind l.grid.number l.grid.own.now)
    (range_below l.period))

use Rattle.std.proofs.Common.{◌≡◌}
use Rattle.std.specs.Prelude.{flat_map}
use Rattle.tt_list_laws.specs.Words.{range_below}
use Rattle.tt_page_text.specs.Puts.{put_text}
use Rattle.tt_page_weeks.specs.Days.{room_cell}
use Rattle.tt_page_weeks.proofs.days.put_room_cells.Given as goal

abbrev pub invariant-loop-period : goal.invariant-loop-period
invariant-loop-period l = l.out ≡ put_text l.initial.out (flat_map
    (room_cell l.plan.problem l.plan.table l.view.labels.now l.view.is_linked l.day l.room)
    (range_below l.period))

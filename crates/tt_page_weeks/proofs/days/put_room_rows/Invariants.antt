use Rattle.std.proofs.Common.{◌≡◌, take}
use Rattle.std.specs.Prelude.{flat_map}
use Rattle.tt_page_text.specs.Puts.{put_text}
use Rattle.tt_page_weeks.specs.Days.{room_row}
use Rattle.tt_page_weeks.proofs.days.put_room_rows.Given as goal

abbrev pub invariant-loop-room : goal.invariant-loop-room
invariant-loop-room l =
    l.out ≡ put_text l.initial.out (flat_map (room_row l.plan.problem l.plan.table l.view.labels.now l.view.is_linked l.day)
    (take l.room-index l.rooms))

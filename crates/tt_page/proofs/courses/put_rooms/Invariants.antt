use Rattle.std.proofs.Common.{◌≡◌}
use Rattle.std.specs.Prelude.{flat_map}
use Rattle.tt_list_laws.specs.Words.{range_below}
use Rattle.tt_page_text.specs.Puts.{put_text}
use Rattle.tt_page.specs.Courses.{room_text}
use Rattle.tt_page.proofs.courses.put_rooms.Given as goal

abbrev pub invariant-loop-room : goal.invariant-loop-room
invariant-loop-room l = l.out ≡ put_text l.initial.out (flat_map (room_text l.plan.problem l.plan.table l.course) (range_below l.room))

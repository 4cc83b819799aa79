use Rattle.std.proofs.Common.{◌≡◌, take}
use Rattle.std.specs.Prelude.{flat_map}
use Rattle.tt_page_text.specs.Puts.{put_text}
use Rattle.tt_page_lists.specs.Reasons.{next_course}
use Rattle.tt_page_lists.proofs.reason.put_next_courses.Given as goal

abbrev pub invariant-loop-course : goal.invariant-loop-course
invariant-loop-course l = l.out ≡ put_text l.initial.out (flat_map (next_course l.instance) (take l.course-index l.courses))

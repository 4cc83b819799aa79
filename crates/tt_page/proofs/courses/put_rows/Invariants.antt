use Rattle.std.proofs.Common.{◌≡◌}
use Rattle.std.specs.Prelude.{flat_map}
use Rattle.tt_list_laws.specs.Words.{range_below}
use Rattle.tt_page_text.specs.Puts.{put_text}
use Rattle.tt_page.specs.Courses.{course_row}
use Rattle.tt_page.proofs.courses.put_rows.Given as goal

abbrev pub invariant-loop-course : goal.invariant-loop-course
invariant-loop-course l = l.out ≡ put_text l.initial.out (flat_map (course_row l.plan.problem l.plan.table) (range_below l.course))

use Rattle.std.proofs.Common.{◌≡◌, take}
use Rattle.std.specs.Prelude.{flat_map}
use Rattle.tt_page_text.specs.Puts.{put_text}
use Rattle.tt_page_weeks.specs.Grids.{barred_text}
use Rattle.tt_page_weeks.proofs.grids.put_all_barred.Given as goal

abbrev pub invariant-loop-course : goal.invariant-loop-course
invariant-loop-course l =
    l.out ≡ put_text l.initial.out (flat_map (barred_text l.instance l.labels l.day l.period) (take l.course-index l.courses))

use Rattle.std.proofs.Common.{◌≡◌, ℕ, ◌&&◌, false, slice_index_or, take}
use Rattle.std.specs.Prelude.{◌==◌}
use Rattle.std.specs.List.{list_any}
use Rattle.tt_instance.specs.Cells.{is_of}
use Rattle.tt_rules.specs.Inner.Places.{place_of}
use Rattle.tt_rules.proofs.compactness.taught.Given as goal

abbrev pub invariant-loop-course : goal.invariant-loop-course
invariant-loop-course l = (k : ℕ) → slice_index_or l.marks k false ≡ list_any
    (λ c. list_any (λ e. is_of c e && (place_of l.instance e == k)) l.by_course.entries) (take l.course-index l.courses)

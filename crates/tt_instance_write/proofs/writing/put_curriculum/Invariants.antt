use Rattle.std.proofs.Common.{◌≡◌, ◌∷◌, ◌++◌, take, slice_index_or}
use Rattle.std.specs.List.{flat_map}
use Rattle.tt_instance.specs.Courses.{no_course}
use Rattle.tt_instance.specs.Seen.{courses_seen}
use Rattle.tt_instance_write.proofs.writing.put_curriculum.Given as goal

abbrev pub invariant-loop-member : goal.invariant-loop-member
invariant-loop-member l = l.out.items ≡ l.initial.out.items ++ flat_map
    (λ c. 32 ∷ (slice_index_or (courses_seen l.courses) c no_course).id) (take l.member-index l.row.members.courses.items)

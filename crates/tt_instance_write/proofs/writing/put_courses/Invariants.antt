use Rattle.std.proofs.Common.{◌≡◌, ◌++◌, take}
use Rattle.std.specs.List.{flat_map}
use Rattle.tt_text.specs.Lines.{line_text}
use Rattle.tt_instance.specs.Spelling.{course_pieces}
use Rattle.tt_instance.specs.Seen.{course_seen}
use Rattle.tt_instance_write.proofs.writing.put_courses.Given as goal

abbrev pub invariant-loop-row : goal.invariant-loop-row
invariant-loop-row l = l.out.items ≡ l.initial.out.items ++ flat_map (λ r. line_text (course_pieces (course_seen r)))
    (take l.row-index l.rows)

use Rattle.std.proofs.Common.{◌≡◌, ◌++◌, take}
use Rattle.std.specs.List.{flat_map}
use Rattle.tt_text.specs.Lines.{line_text}
use Rattle.tt_instance.specs.Spelling.{curriculum_pieces}
use Rattle.tt_instance.specs.Seen.{courses_seen, curriculum_seen}
use Rattle.tt_instance_write.proofs.writing.put_curricula.Given as goal

abbrev pub invariant-loop-row : goal.invariant-loop-row
invariant-loop-row l = l.out.items ≡ l.initial.out.items ++ flat_map
    (λ r. line_text (curriculum_pieces (courses_seen l.courses) (curriculum_seen r))) (take l.row-index l.rows)

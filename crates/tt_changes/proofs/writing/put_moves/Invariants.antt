use Rattle.std.proofs.Common.{◌≡◌, ◌++◌, take}
use Rattle.std.specs.List.{flat_map}
use Rattle.tt_text.specs.Lines.{line_text}
use Rattle.tt_changes.specs.Lines.{change_line}
use Rattle.tt_changes.proofs.writing.put_moves.Given as goal

abbrev pub invariant-loop-change : goal.invariant-loop-change
invariant-loop-change l = l.out.items ≡ l.initial.out.items ++ flat_map (λ e. line_text (change_line l.instance l.word e))
    (take l.change-index l.changes)

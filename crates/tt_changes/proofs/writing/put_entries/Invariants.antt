use Rattle.std.proofs.Common.{◌≡◌, ◌++◌, take}
use Rattle.std.specs.List.{flat_map}
use Rattle.tt_text.specs.Lines.{line_text}
use Rattle.tt_changes.specs.Lines.{entry_line}
use Rattle.tt_changes.proofs.writing.put_entries.Given as goal

abbrev pub invariant-loop-entry : goal.invariant-loop-entry
invariant-loop-entry l = l.out.items ≡ l.initial.out.items ++ flat_map (λ e. line_text (entry_line l.instance l.word e))
    (take l.entry-index l.entries)

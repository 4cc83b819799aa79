use Rattle.std.proofs.Common.{◌≡◌, ◌+◌, drop}
use Rattle.std.specs.List.{prefix_len}
use Rattle.tt_wishes.specs.Lines.{is_in_line}
use Rattle.tt_wishes.proofs.lines.line_len.Given as goal

abbrev pub invariant-loop-i : goal.invariant-loop-i
invariant-loop-i l = l.i + prefix_len is_in_line (drop l.i l.bytes) ≡ prefix_len is_in_line l.bytes

use Rattle.std.proofs.Common.{◌≡◌, ◌++◌, drop}
use Rattle.tt_page_text.specs.Labels.{names_from, names_in}
use Rattle.tt_page_text.specs.Naming.{names_seen}
use Rattle.tt_page_text.proofs.names.names_in.Given as goal

abbrev pub invariant-loop-byte : goal.invariant-loop-byte
invariant-loop-byte l = names_seen l.names.items ++ names_from l.name.items (drop l.byte-index l.text) ≡ names_in l.text

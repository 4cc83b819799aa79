use Rattle.std.proofs.Common.{◌≡◌, false}
use Rattle.std.specs.List.{list_any}
use Rattle.tt_list_laws.specs.Words.{range_below}
use Rattle.tt_text.specs.Texts.{is_text}
use Rattle.tt_table.specs.Kinds.{name_of}
use Rattle.tt_page_weeks.proofs.named.has_named.Given as goal

abbrev pub invariant-loop-number : goal.invariant-loop-number
invariant-loop-number l = list_any (λ n. is_text (name_of l.instance l.kind n) l.name) (range_below l.number) ≡ false

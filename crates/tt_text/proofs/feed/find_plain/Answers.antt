use Rattle.std.proofs.Common.{[], ◌-◌, sym, ◌∙◌, append-nil, arith}
use Rattle.tt_text.proofs.Feeding.{plain_scan_is}
use Rattle.tt_text.proofs.Finding.{held_inside}
use Rattle.tt_text.proofs.feed.find_plain.Goals as goal

pub returns-then-is_space : goal.returns-then-is_space
returns-then-is_space c =
    λ ended.
    let held = c.args.held.now in
    let gap = c.gap_len-gap.result in
    let end = c.plain_end-end.result in
    let scan = plain_scan_is held gap end c.gap_len-gap.ensures.len c.plain_end-end.ensures.end (omega arith) (omega arith)
    (sym c.is_space.ensures ∙ c.if-is_space.true) in
    held_inside c.args.at gap (end - gap) ended held held [] (sym (append-nil held)) scan (omega arith) (omega arith) (omega arith)

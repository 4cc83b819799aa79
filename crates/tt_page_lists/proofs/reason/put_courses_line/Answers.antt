use Rattle.std.proofs.Common.{◌≡◌, false, length, sym, ◌∙◌}
use Rattle.std.specs.Prelude.{◌==◌}
use Rattle.tt_page_lists.specs.Reasons.{courses_line}
use Rattle.tt_page_text.proofs.Growing.{then_put}
use Rattle.tt_page_lists.proofs.reason.put_courses_line.Goals as goal

pub returns : goal.returns
unfolding courses_line
returns c =
    let some : (length c.args.courses.now == 0) ≡ false = sym c.is_empty.ensures ∙ c.if-is_empty.false in
    rw some (then_put _ _ _ _ _ (then_put _ _ _ _ _ c.put_token.ensures c.put_next_courses.ensures) c.put_token-2.ensures)

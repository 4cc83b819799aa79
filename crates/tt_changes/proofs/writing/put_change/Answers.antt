use Rattle.tt_changes.proofs.Lines.{change_text}
use Rattle.tt_changes.proofs.writing.put_change.Goals as goal

pub returns : goal.returns
returns c = rw
    (← change_text c.args.instance.now c.args.change c.args.word.now _ _ _ _ _ _ _ c.requires.from c.course_id.ensures
    c.in_ok-put_token.ensures.ok c.in_ok-put_next_token.ensures.ok c.in_ok-put_place.ensures c.in_ok-put_next_token-2.ensures.ok
    c.in_ok-put_place-2.ensures) c.put_line_end.ensures.ok

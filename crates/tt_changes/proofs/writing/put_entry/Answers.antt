use Rattle.tt_changes.proofs.Lines.{entry_text}
use Rattle.tt_changes.proofs.writing.put_entry.Goals as goal

pub returns : goal.returns
returns c = rw
    (← entry_text c.args.instance.now c.args.entry c.args.word.now _ _ _ _ _ c.requires c.course_id.ensures c.in_ok-put_token.ensures.ok
    c.in_ok-put_next_token.ensures.ok c.in_ok-put_place.ensures) c.put_line_end.ensures.ok

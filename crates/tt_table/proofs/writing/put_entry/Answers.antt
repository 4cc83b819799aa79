use Rattle.tt_table.proofs.WrittenLaws.{entry_text}
use Rattle.tt_table.proofs.writing.put_entry.Goals as goal

pub returns : goal.returns
returns c = rw
    (← entry_text _ _ _ _ _ _ _ _ _ _ _ c.requires c.course_id.ensures c.room_id.ensures c.in_ok-put_token.ensures.ok
    c.in_ok-put_next_token.ensures.ok c.from.ensures c.from-2.ensures c.in_ok-put_next_number.ensures.ok
    c.in_ok-put_next_number-2.ensures.ok) c.put_line_end.ensures.ok

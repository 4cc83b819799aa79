use Rattle.tt_changes.proofs.Lines.{place_text}
use Rattle.tt_changes.proofs.writing.put_place.Goals as goal

pub returns : goal.returns
returns c = rw
    (← place_text _ _ _ _ _ _ _ _ c.requires c.room_id.ensures c.in_ok-put_next_token.ensures.ok c.from.ensures c.from-2.ensures
    c.in_ok-put_next_number.ensures.ok) c.put_next_number-2.ensures.ok

use Rattle.tt_instance_read.specs.declared.fault.Word.TheVariants as word
use Rattle.tt_instance.specs.Spelling.{room_pieces}
use Rattle.tt_instance.specs.Seen.{room_seen}
use Rattle.tt_instance_write.proofs.Texts.{section_done}
use Rattle.tt_instance_write.proofs.writing.put_rooms.Goals as goal

pub returns : goal.returns
returns c = section_done room_seen word.RoomsPart room_pieces c.args.rows.now c.loop-row.row-index c.args.out.now.items
    c.put_section.new.out.items c.loop-row.out.items c.in_ok-put_section.ensures c.loop-row.invariant c.loop-row-test.false

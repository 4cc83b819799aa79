use Rattle.tt_instance_read.specs.declared.fault.Word.TheVariants as word
use Rattle.tt_instance.specs.Spelling.{curriculum_pieces}
use Rattle.tt_instance.specs.Seen.{curriculum_seen, courses_seen}
use Rattle.tt_instance_write.proofs.Texts.{section_done}
use Rattle.tt_instance_write.proofs.writing.put_curricula.Goals as goal

pub returns : goal.returns
returns c = section_done curriculum_seen word.CurriculaPart (curriculum_pieces (courses_seen c.args.courses.now)) c.args.rows.now
    c.loop-row.row-index c.args.out.now.items c.put_section.new.out.items c.loop-row.out.items c.in_ok-put_section.ensures
    c.loop-row.invariant c.loop-row-test.false

use Rattle.std.proofs.Common.{ap, length, arith}
use Rattle.std.proofs.lemmas.Result.{IfOk-equal}
use Rattle.tt_instance.specs.Seen.{courses_seen}
use Rattle.tt_instance_write.proofs.Texts.{curriculum_done}
use Rattle.tt_instance_write.proofs.writing.put_curriculum.Goals as goal

pub returns : goal.returns
returns c =
    IfOk-equal c.put_end.result _ _ _ c.put_end.ensures
    (curriculum_done (courses_seen c.args.courses.now) c.args.row.now.id.now c.args.row.now.members.courses.items c.len.result
    c.loop-member.member-index c.args.out.now.items
    c.put_token.new.out.items c.put_value.new.out.items c.loop-member.out.items c.in_ok-put_token.ensures.ok c.in_ok-put_value.ensures
    c.loop-member.invariant (omega (arith, c.len.ensures, c.args.row.now.members.courses.ok.0))
    (omega (arith, c.loop-member-test.false, ap length c.deref-member-items.ensures.value)))

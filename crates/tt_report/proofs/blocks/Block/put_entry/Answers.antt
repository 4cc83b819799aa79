use Rattle.std.proofs.Common.{◌≡◌, ap, inl, inr}
use Rattle.tt_report.specs.Inner.Blocks.{shown_in}
use Rattle.tt_report.specs.Names.{shown}
use Rattle.tt_report.specs.Reports.{course_and_room}
use Rattle.tt_report.proofs.Written.{course_put, course_and_room_put}
use Rattle.tt_report.proofs.blocks.Block.put_entry.Goals as goal

pub returns-in-Room : goal.returns-in-Room
returns-in-Room g c =
    course_put g.W.Sink.contents g.W.Sink.has_failed c.args.instance.now c.args.self c.args.entry.now (shown c.course_id.result.now)
    c.args.out.now c.put_next_name.new.out
    (ap (λ b. shown_in c.args.instance.now b c.args.entry.now) c.in-Room.is) (ap shown c.course_id.ensures) c.put_next_name.ensures

pub returns-in-Teacher : goal.returns-in-Teacher
returns-in-Teacher g c =
    let p = c.args.instance.now in
    let e = c.args.entry.now in
    let pieces : shown_in p c.args.self e ≡ course_and_room p e = elim c.in-Teacher.is [
      | inl h ↦ ap (λ b. shown_in p b e) h.1
      | inr h ↦
          ap (λ b. shown_in p b e) h.1
    ] in
    course_and_room_put g.W.Sink.contents g.W.Sink.has_failed p c.args.self e (shown c.course_id.result.now) (shown c.room_id.result.now)
    c.args.out.now c.put_next_name.new.out c.put_next_name-in-Teacher.new.out
    pieces (ap shown c.course_id.ensures) (ap shown c.room_id.ensures) c.put_next_name.ensures c.put_next_name-in-Teacher.ensures

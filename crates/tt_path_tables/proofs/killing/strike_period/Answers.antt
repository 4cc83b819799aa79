use Rattle.std.proofs.Common.{◌≡◌, ◌+◌, ◌<◌, true, ◌&&◌, length, take, ap, ◌∙◌, arith}
use Rattle.std.specs.Prelude.{◌==◌}
use Rattle.std.specs.Prelude.{slice_index_or}
use Rattle.std.proofs.Math.Seq.{take-length}
use Rattle.tt_list_laws.specs.Words.{has_number}
use Rattle.tt_instance.specs.declared.cell.Cell.{Cell}
use Rattle.tt_path_tables.specs.Inner.Tables.{is_placed}
use Rattle.tt_path_tables.proofs.Losing.{loses-same, loses-more}
use Rattle.tt_path_tables.proofs.Barred.{course_next_at}
use Rattle.tt_path_tables.proofs.killing.strike_period.Goals as goal

pub loop-course-preserved : goal.loop-course-preserved
loop-course-preserved c =
    let a = c.args in
    let p = a.instance.now in
    let ks = a.courses.now in
    let i = c.loop-course.course-index in
    let here : i < length ks = omega arith in
    let at = λ (x : Cell). (x.day == a.slot.day) && (x.period == a.slot.period) in
    record {
      loses = loses-more p a.live.now.words c.loop-course.live.words c.remove_rooms.new.table.words
          (λ x. has_number (take i ks) x.course && at x) (λ x. is_placed (slice_index_or ks i 0) a.slot.day a.slot.period x && true)
          (λ x. has_number (take (i + 1) ks) x.course && at x) c.loop-course.invariant.loses c.in_ok-remove_rooms.ensures.ok
          (λ x h. course_next_at ks i here x.course (x.day == a.slot.day) (x.period == a.slot.period));
      earlier = c.remove_rooms.ensures.unchanged ∙ c.loop-course.invariant.earlier;
    }

pub returns-clause-ok : goal.returns-clause-ok
returns-clause-ok c =
    let a = c.args in
    let ks = a.courses.now in
    let end : c.loop-course.course-index ≡ length ks = omega arith in
    loses-same a.instance.now a.live.now.words c.loop-course.live.words _
    (λ x. has_number ks x.course && ((x.day == a.slot.day) && (x.period == a.slot.period))) c.loop-course.invariant.loses
    (λ x h. ap (λ l. has_number l x.course && ((x.day == a.slot.day) && (x.period == a.slot.period)))
    (ap (λ n. take n ks) end ∙ take-length ks))

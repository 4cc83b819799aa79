use Rattle.std.proofs.Common.{◌+◌, ◌≤◌, ◌&&◌, length, refl, ap, ◌∙◌, arith}
use Rattle.std.specs.Prelude.{◌==◌, nat_lt}
use Rattle.tt_instance.specs.declared.cell.Cell.{Cell}
use Rattle.std.proofs.lemmas.Bool.{lt-ltb, le-ltb}
use Rattle.tt_path_tables.specs.Inner.Tables.{is_placed}
use Rattle.tt_path_tables.specs.Inner.Struck.{loses_room, is_struck}
use Rattle.tt_path_tables.proofs.Losing.{loses-none, loses-more, loses-same, course_next}
use Rattle.tt_path_tables.proofs.killing.kill.Goals as goal

pub loop-course-init : goal.loop-course-init
loop-course-init c =
    let a = c.args in
    let basis = a.basis.now in
    let demand = a.demand.now in
    let p = basis.instance.now in
    let struck = is_struck p basis.free.now.words demand.pattern.now a.slot.day a.slot.period demand.courses.now in
    record {
      loses = loses-none p a.live.now.words (λ x. nat_lt x.course 0 && struck x) c.requires.live
          (λ x h. ap (λ b. b && struck x) (le-ltb x.course 0 (omega arith)));
      earlier = refl;
    }

pub strike-requires-clause-live : goal.strike-requires-clause-live
strike-requires-clause-live c = c.loop-course.invariant.loses.table

pub loop-course-preserved : goal.loop-course-preserved
loop-course-preserved c =
    let a = c.args in
    let basis = a.basis.now in
    let demand = a.demand.now in
    let p = basis.instance.now in
    let n = c.loop-course.course in
    let struck = is_struck p basis.free.now.words demand.pattern.now a.slot.day a.slot.period demand.courses.now in
    let room = λ (x : Cell).
    loses_room p basis.free.now.words demand.pattern.now a.slot.day a.slot.period demand.courses.now x.course x.room in
    record {
      loses = loses-more p a.live.now.words c.loop-course.live.words c.strike.new.live.words (λ x. nat_lt x.course n && struck x)
          (λ x. is_placed n a.slot.day a.slot.period x && room x) (λ x. nat_lt x.course (n + 1) && struck x) c.loop-course.invariant.loses
          c.in_ok-strike.ensures.ok
          (λ x h. course_next n x.course (x.day == a.slot.day) (x.period == a.slot.period) (room x));
      earlier = c.strike.ensures.unchanged ∙ c.loop-course.invariant.earlier;
    }

pub returns-clause-ok : goal.returns-clause-ok
returns-clause-ok c =
    let a = c.args in
    let basis = a.basis.now in
    let demand = a.demand.now in
    let p = basis.instance.now in
    let n = c.loop-course.course in
    let struck = is_struck p basis.free.now.words demand.pattern.now a.slot.day a.slot.period demand.courses.now in
    let end : length p.courses ≤ n = omega (arith, c.courses-course-end.ensures.value) in
    loses-same p a.live.now.words c.loop-course.live.words (λ x. nat_lt x.course n && struck x) struck c.loop-course.invariant.loses
    (λ x h. let l = h.course in ap (λ b. b && struck x) (lt-ltb x.course n (omega arith)))

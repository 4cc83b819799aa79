use Rattle.std.proofs.Common.{◌≡◌, ℕ, false, ◌&&◌, ltb, get_or, map, length, sym, ap, ◌∙◌, arith}
use Rattle.std.specs.Prelude.{◌==◌}
use Rattle.std.proofs.lemmas.List.{length-map, get_or-map}
use Rattle.tt_instance.proofs.Flagging.{growing, all_grown}
use Rattle.tt_instance_read.proofs.conflicts.marks_of_teacher.Goals as goal

pub loop-course-preserved : goal.loop-course-preserved
loop-course-preserved c =
    let rows = c.args.courses.now in
    record {
      len = c.mark_if.ensures.len ∙ c.loop-course.invariant.len;
      marked = growing c.loop-course.marks c.mark_if.new.self (λ k. get_or (map (λ r. r.teacher == c.args.teacher) rows) k false)
          c.loop-course.course _ c.mark_if.ensures.marked
          (sym (get_or-map (λ r. r.teacher == c.args.teacher) rows c.loop-course.course _ false c.loop-course-test.true))
          c.loop-course.invariant.marked;
    }

pub returns : goal.returns
returns c =
    let rows = c.args.courses.now in
    let all : c.loop-course.course ≡ length rows = omega (arith, c.loop-course-test.false, c.loop-course.auto.course-end) in
    all_grown c.loop-course.marks (map (λ r. r.teacher == c.args.teacher) rows) (length rows)
    c.loop-course.invariant.len (length-map rows (λ r. r.teacher == c.args.teacher)) (λ k. c.loop-course.invariant.marked k
    ∙ ap (λ (n : ℕ). ltb k n && get_or (map (λ r. r.teacher == c.args.teacher) rows) k false) all)

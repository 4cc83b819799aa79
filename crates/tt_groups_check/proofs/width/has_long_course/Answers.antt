use Rattle.std.proofs.Common.{◌&&◌, sym, ◌∙◌, arith, lt-ltb}
use Rattle.std.specs.Prelude.{nat_lt}
use Rattle.std.proofs.lemmas.Bool.{and_from, and_left, and_right, le-ltb}
use Rattle.tt_list_laws.proofs.Below.{any_more, any_stops}
use Rattle.tt_instance.specs.Courses.{lectures}
use Rattle.tt_groups.specs.Group.{concerns}
use Rattle.tt_groups_check.proofs.width.has_long_course.Goals as goal
use Rattle.tt_groups_check.proofs.width.has_long_course.Goals.{else-is_concerned-via-then-is_concerned+else-lectures-gt-GROUP_LECTURES, else-is_concerned-via-else-is_concerned}

pub returns-then-lectures-gt-GROUP_LECTURES : goal.returns-then-lectures-gt-GROUP_LECTURES
returns-then-lectures-gt-GROUP_LECTURES c =
    let p = c.args.instance.now in
    let q = concerns p c.args.group.now in
    let i = c.loop-course.course in
    any_stops (λ k. q k && nat_lt 255 (lectures p k)) _ i (omega (arith, c.loop-course-test.true, c.courses-course-end.ensures.value))
    (sym (and_from (q i) (nat_lt 255 (lectures p i)) (sym c.is_concerned.ensures ∙ c.if-is_concerned.true)
    (lt-ltb 255 (lectures p i) (omega (arith, c.lectures.ensures.value, c.if-lectures-gt-GROUP_LECTURES.true)))))

pub loop-course-preserved : goal.loop-course-preserved
loop-course-preserved c =
    let p = c.args.instance.now in
    let q = concerns p c.args.group.now in
    let i = c.loop-course.course in
    any_more (λ k. q k && nat_lt 255 (lectures p k)) i c.loop-course.invariant
    (elim c.else-is_concerned.branch [
      | else-is_concerned-via-then-is_concerned+else-lectures-gt-GROUP_LECTURES w ↦ and_right (q i) (nat_lt 255 (lectures p i))
          (le-ltb 255 (lectures p i) (omega (arith, w.lectures.ensures.value, w.if-lectures-gt-GROUP_LECTURES.false)))
      | else-is_concerned-via-else-is_concerned w ↦ and_left (q i) (nat_lt 255 (lectures p i))
          (sym c.is_concerned.ensures ∙ w.if-is_concerned.false)
    ])

use Rattle.std.proofs.Common.{sym, ◌∙◌, arith}
use Rattle.tt_list_laws.proofs.Numbers.{count_more}
use Rattle.tt_list_laws.proofs.Sums.{one_if_true, one_if_false}
use Rattle.tt_groups.specs.Group.{concerns}
use Rattle.tt_groups_check.proofs.width.courses_count.Goals as goal
use Rattle.tt_groups_check.proofs.width.courses_count.Goals.{then-is_concerned, else-is_concerned}

pub loop-course-preserved : goal.loop-course-preserved
loop-course-preserved c =
    let q = concerns c.args.instance.now c.args.group.now in
    let i = c.loop-course.course in
    elim c.if-is_concerned.branch [
      | then-is_concerned w ↦ record {
        count = omega (
          arith,
          w.count-is,
          c.loop-course.invariant.count,
          count_more q i,
          one_if_true (q i) (sym c.is_concerned.ensures ∙ w.if-is_concerned.true),
        );
        at_most = omega (arith, w.count-is, c.loop-course.invariant.at_most);
      }
      | else-is_concerned w ↦ record {
        count = omega (
          arith,
          w.count-is,
          c.loop-course.invariant.count,
          count_more q i,
          one_if_false (q i) (sym c.is_concerned.ensures ∙ w.if-is_concerned.false),
        );
        at_most = omega (arith, w.count-is, c.loop-course.invariant.at_most);
      }
    ]

use Rattle.std.proofs.Common.{ℕ, ◌+◌, ◌*◌}
use Rattle.tt_proof_sum.proofs.OwnersOfPrices.{marks_below}
use Rattle.tt_proof_sum.proofs.table.Table.mark_rooms.Goals as goal

pub loop-course-preserved : goal.loop-course-preserved
loop-course-preserved c = record {
  marks = marks_below c.args.self.now c.loop-course.self c.mark.new.self (λ (n : ℕ). 4 * n + c.args.kind) c.loop-course.course
      c.loop-course.invariant.marks c.mark.ensures;
}

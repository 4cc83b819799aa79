use Rattle.std.proofs.Common.{◌≡◌, ℕ, ◌+◌, ◌*◌, None, Some, map, sym, ap, subst, ◌∙◌, arith}
use Rattle.tt_list_laws.specs.Words.{range_below}
use Rattle.tt_proof_sum.specs.Tables.{first_owner}
use Rattle.tt_proof_sum.proofs.OwnersOfPrices.{none_below, owner_below}
use Rattle.tt_proof_sum.proofs.table.Table.first_owner_of_rooms.Goals as goal

pub returns-then-owner-ne0 : goal.returns-then-owner-ne0
returns-then-owner-ne0 c =
    let e = c.owner-owner.ensures in
    ap (λ (o : ℕ). Some o) e
    ∙ owner_below c.args.self.now (λ (n : ℕ). 4 * n + c.args.kind) c.args.courses c.loop-course.course
    c.loop-course-test.true c.loop-course.invariant.free (λ none. c.if-owner-ne0.true (e ∙ none))

pub loop-course-preserved : goal.loop-course-preserved
loop-course-preserved c = record {
  free = none_below c.args.self.now (λ (n : ℕ). 4 * n + c.args.kind) c.loop-course.course c.loop-course.invariant.free
      (sym c.owner-owner.ensures ∙ c.if-owner-ne0.false);
}

pub returns : goal.returns
returns c =
    let whole : c.loop-course.course ≡ c.args.courses = omega arith in
    sym (subst (λ (m : ℕ). first_owner c.args.self.now (map (λ (n : ℕ). 4 * n + c.args.kind) (range_below m)) ≡ None) whole
    c.loop-course.invariant.free)

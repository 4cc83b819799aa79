use Rattle.std.proofs.Common.{ℕ, ◌<◌, ◌*◌, [], ◌∷◌, sym, subst}
use Rattle.tt_proof_sum.proofs.Tables.{claims_more}
use Rattle.tt_proof_sum.proofs.table.Table.claim_capacities.Goals as goal

pub loop-course-preserved : goal.loop-course-preserved
loop-course-preserved c = record {
  claims = claims_more (λ (k : ℕ × ℕ). (c.args.node, 4 * k.0) ∷ []) c.args.self.now c.loop-course.self c.claim.new.self
      c.args.courses.now c.loop-course.course-index _ c.requires c.loop-course-test.true
      c.loop-course.invariant.claims c.claim.ensures;
  proof = subst (λ (q : ℕ). 0 < q) (sym c.claim.ensures.proof) c.loop-course.invariant.proof;
}

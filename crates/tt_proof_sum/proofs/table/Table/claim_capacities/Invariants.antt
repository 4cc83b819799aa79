use Rattle.std.proofs.Common.{ℕ, ◌<◌, ◌*◌, [], ◌∷◌, take}
use Rattle.std.specs.Prelude.{flat_map}
use Rattle.tt_proof_sum.specs.Tables.{Claims}
use Rattle.tt_proof_sum.proofs.table.Table.claim_capacities.Given as goal

abbrev pub invariant-loop-course : goal.invariant-loop-course
invariant-loop-course l =
    record {
      claims : Claims l.fn.self (flat_map (λ (k : ℕ × ℕ). (l.node, 4 * k.0) ∷ []) (take l.course-index l.courses)) l.self;
      proof : 0 < l.self.proof;
    }

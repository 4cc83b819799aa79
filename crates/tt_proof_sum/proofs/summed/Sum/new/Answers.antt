use Rattle.std.proofs.Common.{refl}
use Rattle.tt_proof_sum.proofs.Added.{small_none}
use Rattle.tt_proof_sum.proofs.summed.Sum.new.Goals as goal

pub returns-clause-sum : goal.returns-clause-sum
returns-clause-sum c = record { table = c.in_ok-new.ensures; apart = refl; total = refl; small = small_none }

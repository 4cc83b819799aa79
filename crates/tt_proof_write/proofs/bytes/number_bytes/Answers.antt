use Rattle.std.proofs.Common.{arith}
use Rattle.tt_proof_write.proofs.ByteLaws.{digits_short}
use Rattle.tt_proof_write.proofs.bytes.number_bytes.Goals as goal

pub overflow_add-result : goal.overflow_add-result
overflow_add-result c = omega (arith, digits_short c.args.number (omega arith))

pub returns-clause-short : goal.returns-clause-short
returns-clause-short c = omega (arith, digits_short c.args.number (omega arith))

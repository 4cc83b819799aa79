use Rattle.std.proofs.Common.{arith}
use Rattle.tt_bits.proofs.Counts.{count_ones-bits}
use Rattle.tt_bits.proofs.bits.count.Goals as goal

pub returns-clause-value : goal.returns-clause-value
returns-clause-value c = count_ones-bits c.args.word (omega arith)

use Rattle.std.proofs.Common.{arith}
use Rattle.tt_bits.proofs.BitLaws.{has_bit-without}
use Rattle.tt_bits.proofs.bits.without.Goals as goal

pub returns : goal.returns
returns c = λ r h. has_bit-without c.args.word c.args.mask r (omega arith) h

use Rattle.std.proofs.Common.{arith}
use Rattle.tt_bits.proofs.BitLaws.{has_bit-not}
use Rattle.tt_bits.proofs.bits.others.Goals as goal

pub returns : goal.returns
returns c = λ r h. has_bit-not c.args.word r (omega arith) h

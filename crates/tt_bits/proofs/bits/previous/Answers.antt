use Rattle.std.proofs.Common.{arith}
use Rattle.tt_bits.proofs.Shifted.{has_bit-previous}
use Rattle.tt_bits.proofs.bits.previous.Goals as goal

pub returns : goal.returns
returns c = λ r h. has_bit-previous c.args.word r (omega arith) h

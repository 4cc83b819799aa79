use Rattle.tt_bits.proofs.Shifted.{has_bit-next}
use Rattle.tt_bits.proofs.bits.next.Goals as goal

pub returns : goal.returns
returns c = λ r h. has_bit-next c.args.word r h

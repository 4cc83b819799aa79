use Rattle.tt_bits.proofs.Growing.{has_bit-either}
use Rattle.tt_bits.proofs.bits.either.Goals as goal

pub returns : goal.returns
returns c = λ r h. has_bit-either c.args.word c.args.other r

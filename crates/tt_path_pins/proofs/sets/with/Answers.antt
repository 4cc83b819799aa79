use Rattle.tt_bits.proofs.Growing.{has_bit-with}
use Rattle.tt_path_pins.proofs.sets.with.Goals as goal

pub returns : goal.returns
returns c = λ s h. has_bit-with c.args.word c.args.number s c.requires

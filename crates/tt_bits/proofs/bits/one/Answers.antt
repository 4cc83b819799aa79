use Rattle.std.proofs.Common.{ap, ◌∙◌}
use Rattle.tt_bits.proofs.BitLaws.{has_bit-one, shifted}
use Rattle.tt_bits.specs.Inner.Bits.{has_bit}
use Rattle.tt_bits.proofs.bits.one.Goals as goal

pub returns : goal.returns
returns c = λ r h. ap (λ n. has_bit n r) (shifted c.args.number c.requires) ∙ has_bit-one c.args.number r

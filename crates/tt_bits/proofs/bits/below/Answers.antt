use Rattle.std.proofs.Common.{◌-◌, ap, sym, ◌∙◌, arith}
use Rattle.std.proofs.lemmas.Bool.{lt-ltb}
use Rattle.tt_bits.specs.Inner.Bits.{has_bit}
use Rattle.tt_bits.proofs.BitLaws.{shifted, low_bits, has_bit-full}
use Rattle.tt_bits.proofs.bits.below.Goals as goal

pub returns-then-bound-lt64 : goal.returns-then-bound-lt64
returns-then-bound-lt64 c = λ r h. ap (λ n. has_bit (n - 1) r) (shifted c.args.bound (omega arith)) ∙ low_bits c.args.bound r

pub returns-else-bound-lt64 : goal.returns-else-bound-lt64
returns-else-bound-lt64 c = λ r h. has_bit-full r h ∙ sym (lt-ltb r c.args.bound (omega arith))

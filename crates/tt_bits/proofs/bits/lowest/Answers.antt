use Rattle.std.proofs.Common.{ap, arith, w64}
use Rattle.std.specs.Prelude.{◌==◌}
use Rattle.std.proofs.lemmas.Nat.Bits.{bit_at-trailing_zeros}
use Rattle.tt_bits.proofs.bits.lowest.Goals as goal

pub returns-clause-there : goal.returns-clause-there
returns-clause-there c = ap (λ n. n == 1) (bit_at-trailing_zeros w64 c.args.word c.requires (omega arith)).1

pub returns-clause-least : goal.returns-clause-least
returns-clause-least c = λ r h. ap (λ n. n == 1) ((bit_at-trailing_zeros w64 c.args.word c.requires (omega arith)).2 r h)

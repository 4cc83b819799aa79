use Rattle.std.proofs.Common.{◌&&◌, ◌||◌, sym, ap, ◌∙◌}
use Rattle.std.specs.Prelude.{◌==◌}
use Rattle.std.proofs.Math.Bool.{or-false}
use Rattle.tt_bits.specs.Inner.Bits.{has_bit}
use Rattle.tt_bits.proofs.Growing.{has_bit-with}
use Rattle.tt_bits.proofs.bits.with_if.Goals as goal

pub returns-then-is_in : goal.returns-then-is_in
returns-then-is_in c = λ r h. has_bit-with c.args.word c.args.number r c.requires
    ∙ ap (λ b. has_bit c.args.word r || (b && (r == c.args.number))) (sym c.if-is_in.true)

pub returns-else-is_in : goal.returns-else-is_in
returns-else-is_in c = λ r h. sym (ap (λ b. has_bit c.args.word r || (b && (r == c.args.number))) c.if-is_in.false
    ∙ or-false (has_bit c.args.word r))

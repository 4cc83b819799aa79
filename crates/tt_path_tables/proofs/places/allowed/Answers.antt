use Rattle.std.proofs.Common.{◌+◌, ◌*◌, sym, ap, ◌∙◌}
use Rattle.tt_path.specs.Facts.{agrees}
use Rattle.tt_bits.proofs.BitLaws.{has_bit-full}
use Rattle.tt_path_tables.proofs.places.allowed.Goals as goal

pub returns-in-None : goal.returns-in-None
returns-in-None c = λ k h. has_bit-full k h ∙ ap (λ o. agrees o (c.args.block * 64 + k)) (sym c.in-None.is)

use Rattle.std.proofs.Common.{not, sym, ap, ◌∙◌, arith, eq-eqb, ne_eqb, inl, inr}
use Rattle.std.proofs.lemmas.Bool.{cases_eq}
use Rattle.tt_bits.proofs.BitLaws.{empty-none, some-bit}
use Rattle.tt_bits.proofs.bits.is_empty.Goals as goal

pub returns : goal.returns
returns c = elim (cases_eq c.args.word 0) [
  | inl e ↦ eq-eqb c.args.word 0 e ∙ sym (ap not (empty-none c.args.word e))
  | inr e ↦ ne_eqb c.args.word 0 e ∙ sym (ap not (some-bit c.args.word (omega arith) (omega arith)))
]

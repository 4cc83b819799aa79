use Rattle.std.proofs.Common.{◌≡◌, ◌-◌, true, sym, ap, ◌∙◌, arith, eq-eqb}
use Rattle.std.specs.Prelude.{slice_index_or, slice_set}
use Rattle.tt_path_tables.specs.Inner.Words.{size, is_plain}
use Rattle.tt_path_tables.proofs.Wide.{widened}
use Rattle.tt_path_tables.proofs.removing.widen.Goals as goal

pub returns-in_ok-set-clause-ok : goal.returns-in_ok-set-clause-ok
returns-in_ok-set-clause-ok c =
    let p = c.args.instance.now in
    let old = c.args.table.now.words in
    let last : c.len-last.result - 1 ≡ size p = omega (arith, c.len-last.ensures, c.requires.table.len) in
    let plain : is_plain p old ≡ true =
    eq-eqb (slice_index_or old (size p) 0) 0 (ap (λ i. slice_index_or old i 0) (sym last) ∙ sym c.word.ensures ∙ c.if-word-eq-PLAIN.true) in
    widened p old c.requires.table c.set.new.self.words plain (c.in_ok-set.ensures.ok ∙ ap (λ i. slice_set old i 2) last)

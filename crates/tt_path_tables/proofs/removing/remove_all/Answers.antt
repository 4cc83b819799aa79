use Rattle.std.proofs.Common.{◌≡◌, ◌-◌, ap, ◌∙◌, arith}
use Rattle.std.specs.Prelude.{slice_set}
use Rattle.tt_path_tables.specs.Inner.Words.{size}
use Rattle.tt_path_tables.proofs.Dropping.{all_removed}
use Rattle.tt_path_tables.proofs.removing.remove_all.Goals as goal

pub returns-clause-ok : goal.returns-clause-ok
returns-clause-ok c =
    let a = c.args in
    let p = a.instance.now in
    let old = a.table.now.words in
    let last : c.len-last.result - 1 ≡ size p = omega (arith, c.len-last.ensures, c.requires.table.len) in
    all_removed p old c.set.new.self.words c.requires.table (c.in_ok-set.ensures.ok ∙ ap (λ i. slice_set old i 1) last)

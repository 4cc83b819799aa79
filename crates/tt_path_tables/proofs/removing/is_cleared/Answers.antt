use Rattle.std.proofs.Common.{◌≡◌, ◌-◌, not, sym, ap, ◌∙◌, arith}
use Rattle.std.specs.Prelude.{◌==◌, slice_index_or}
use Rattle.tt_path_tables.specs.Inner.Words.{size}
use Rattle.tt_path_tables.proofs.Dropping.{cleared-cell}
use Rattle.tt_path_tables.proofs.removing.is_cleared.Goals as goal

pub returns : goal.returns
returns c = λ e x.
    let p = c.args.instance.now in
    let words = c.args.table.now.words in
    let last : c.len.result - 1 ≡ size p = omega (arith, c.len.ensures, c.requires.table.len) in
    cleared-cell p words (ap (λ i. not (slice_index_or words i 0 == 1)) (sym last)
    ∙ ap (λ w. not (w == 1)) (sym c.word.ensures) ∙ ap not e) x

use Rattle.std.proofs.Common.{◌≡◌, ◌≤◌, length, sym, ap, ◌∙◌, subst}
use Rattle.std.specs.Prelude.{List, filter, IfOk}
use Rattle.tt_instance.specs.declared.cell.Cell.{Cell}
use Rattle.tt_path.specs.Live.{is_live}
use Rattle.tt_branch.proofs.LiveTables.{cells_nested}
use Rattle.tt_branch.proofs.live.live_table.Goals as goal

pub table_with-requires : goal.table_with-requires
table_with-requires g c =
    let p = g.P.Path.problem c.args.path.now in
    let same = c.as_slice.ensures.value ∙ c.in_ok-cells.ensures ∙ ap (filter (is_live p (g.P.Path.facts c.args.path.now)))
    (cells_nested p) in
    subst (λ (l : List Cell). length l ≤ 16384) (sym same) c.requires

pub returns : goal.returns
returns g c =
    let p = g.P.Path.problem c.args.path.now in
    let same = c.as_slice.ensures.value ∙ c.in_ok-cells.ensures ∙ ap (filter (is_live p (g.P.Path.facts c.args.path.now)))
    (cells_nested p) in
    subst (λ (l : List Cell). IfOk c.table_with.result (λ table. table ≡ l)) same c.table_with.ensures

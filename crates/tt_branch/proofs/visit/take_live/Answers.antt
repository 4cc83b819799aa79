use Rattle.std.proofs.Common.{List, refl, sym, ◌∙◌, subst, arith}
use Rattle.std.specs.Prelude.{All}
use Rattle.tt_instance.specs.Problem.{Problem}
use Rattle.tt_instance.specs.Limits.{IsInstance}
use Rattle.tt_instance.specs.Cells.{InRange}
use Rattle.tt_instance.specs.declared.cell.Cell.{Cell}
use Rattle.tt_rules.specs.Score.{IsScore, IsFeasible, cost}
use Rattle.tt_rules.proofs.Scores.{cost_is}
use Rattle.tt_path.specs.Facts.{Fits}
use Rattle.tt_path.proofs.LiveCells.{live_cells}
use Rattle.tt_leaf.specs.declared.leaf.Bound.TheVariants.{AtLeast}
use Rattle.tt_leaf_find.specs.Found.{Closes}
use Rattle.tt_branch.specs.Inner.BestSoFar.{table_of}
use Rattle.tt_branch.specs.Outcomes.{final_bound}
use Rattle.tt_branch.proofs.Advancing.{advance_to}
use Rattle.tt_branch.proofs.LiveTables.{few_live}
use Rattle.tt_branch.proofs.Opening.{solved}
use Rattle.tt_branch.proofs.Searching.{IsBetter}
use Rattle.tt_branch.proofs.visit.take_live.Goals as goal

pub live_table-requires : goal.live_table-requires
live_table-requires g c = λ κs.
    let p = g.P.Path.problem c.args.path.now in
    let ok = subst IsInstance c.instance.ensures c.days.ensures.instance in (
      (refl, tt),
      omega (
        arith,
        few_live p (g.P.Path.facts c.args.path.now) (final_bound p (table_of c.args.best.now)) ok c.requires.pinned
            c.requires.unclosed,
      ),
    )

pub score-requires : goal.score-requires
score-requires g c =
    let p = g.P.Path.problem c.args.path.now in
    let ok = subst IsInstance c.instance.ensures c.days.ensures.instance in
    let h = solved p (g.P.Path.facts c.args.path.now) (table_of c.args.best.now) ok c.requires.pinned c.requires.unclosed in
    subst (λ (q : Problem). All (InRange q) c.in_ok-table.table) (sym c.instance-2.ensures)
    (subst (All (InRange p)) (sym c.in_ok-table.ensures) h.feasible.timetable)

pub returns-clause-known : goal.returns-clause-known
returns-clause-known g c =
    let p = g.P.Path.problem c.args.path.now in
    let facts = g.P.Path.facts c.args.path.now in
    let ok = subst IsInstance c.instance.ensures c.days.ensures.instance in
    let h = solved p facts (table_of c.args.best.now) ok c.requires.pinned c.requires.unclosed in
    subst (λ (t : List Cell). Closes p facts (AtLeast (cost p t)) c.in_ok-leaf.leaf) (sym c.in_ok-table.ensures)
    (subst (Closes p facts (AtLeast (cost p (live_cells p facts)))) (sym c.in_ok-leaf.ensures.leaf) h.closes)

pub returns-clause-better : goal.returns-clause-better
returns-clause-better g c =
    let p = g.P.Path.problem c.args.path.now in
    let facts = g.P.Path.facts c.args.path.now in
    let ok = subst IsInstance c.instance.ensures c.days.ensures.instance in
    let h = solved p facts (table_of c.args.best.now) ok c.requires.pinned c.requires.unclosed in
    let t = c.in_ok-table.table in
    let score = c.score.result in
    advance_to p facts c.args.best.now (record { table = t; cost = c.cost-cost.result })
    (subst (IsBetter p (table_of c.args.best.now)) (sym c.in_ok-table.ensures) h.better)
    (subst (IsFeasible p) (sym c.in_ok-table.ensures) h.feasible)
    (c.cost-cost.ensures ∙ cost_is p t score (subst (λ (q : Problem). IsScore q t score) c.instance-2.ensures c.score.ensures))
    (subst (λ (u : List Cell). Fits p u facts) (sym c.in_ok-table.ensures) h.fits)

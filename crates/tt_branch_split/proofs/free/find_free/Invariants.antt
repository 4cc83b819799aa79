use Rattle.std.proofs.Common.{ℕ, ◌<◌, length}
use Rattle.tt_instance.specs.Cells.{cell, slot}
use Rattle.tt_branch_split.specs.Choice.{IsFree}
use Rattle.tt_branch_split.proofs.free.find_free.Given as goal

abbrev pub invariant-loop-course : goal.invariant-loop-course
invariant-loop-course g l =
    let p = g.P.Path.problem l.path in
    let facts = g.P.Path.facts l.path in
    (c : ℕ) → c < l.course → (r : ℕ) → r < length p.rooms → (d : ℕ) → d < p.days → (s : ℕ) → s < p.periods
    → ¬ IsFree p facts (cell c r (slot d s))

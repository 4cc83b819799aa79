use Rattle.std.proofs.Common.{ℕ, ◌<◌}
use Rattle.tt_instance.specs.Cells.{cell, slot}
use Rattle.tt_branch_split.specs.Choice.{IsFree}
use Rattle.tt_branch_split.proofs.free.free_on.Given as goal

abbrev pub invariant-loop-period : goal.invariant-loop-period
invariant-loop-period g l =
    let p = g.P.Path.problem l.path in
    let facts = g.P.Path.facts l.path in
    (s : ℕ) → s < l.period → ¬ IsFree p facts (cell l.course l.room (slot l.day s))

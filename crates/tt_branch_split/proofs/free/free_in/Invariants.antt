use Rattle.std.proofs.Common.{ℕ, ◌<◌}
use Rattle.tt_instance.specs.Cells.{cell, slot}
use Rattle.tt_branch_split.specs.Choice.{IsFree}
use Rattle.tt_branch_split.proofs.free.free_in.Given as goal

abbrev pub invariant-loop-day : goal.invariant-loop-day
invariant-loop-day g l =
    let p = g.P.Path.problem l.path in
    let facts = g.P.Path.facts l.path in
    (d : ℕ) → d < l.day → (s : ℕ) → s < p.periods → ¬ IsFree p facts (cell l.course l.room (slot d s))

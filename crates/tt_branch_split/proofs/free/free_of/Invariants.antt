use Rattle.std.proofs.Common.{ℕ, ◌<◌}
use Rattle.tt_instance.specs.Cells.{cell, slot}
use Rattle.tt_branch_split.specs.Choice.{IsFree}
use Rattle.tt_branch_split.proofs.free.free_of.Given as goal

abbrev pub invariant-loop-room : goal.invariant-loop-room
invariant-loop-room g l =
    let p = g.P.Path.problem l.path in
    let facts = g.P.Path.facts l.path in
    (r : ℕ) → r < l.room → (d : ℕ) → d < p.days → (s : ℕ) → s < p.periods → ¬ IsFree p facts (cell l.course r (slot d s))

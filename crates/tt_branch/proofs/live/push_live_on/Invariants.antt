use Rattle.std.proofs.Common.{◌≡◌, ◌++◌, map}
use Rattle.std.specs.Prelude.{filter}
use Rattle.tt_list_laws.specs.Words.{range_below}
use Rattle.tt_path.specs.Live.{is_live}
use Rattle.tt_instance.specs.Cells.{cell, slot}
use Rattle.tt_branch.proofs.live.push_live_on.Given as goal

abbrev pub invariant-loop-period : goal.invariant-loop-period
invariant-loop-period g l =
    let p = g.P.Path.problem l.path in
    l.cells.items ≡ l.fn.cells.items ++ filter (is_live p (g.P.Path.facts l.path))
    (map (λ s. cell l.course l.room (slot l.day s)) (range_below l.period))

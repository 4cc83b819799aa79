use Rattle.std.proofs.Common.{◌≡◌, ◌++◌}
use Rattle.std.specs.Prelude.{filter, flat_map}
use Rattle.tt_list_laws.specs.Words.{range_below}
use Rattle.tt_path.specs.Live.{is_live}
use Rattle.tt_branch.specs.Inner.Steps.{cells_on}
use Rattle.tt_branch.proofs.live.push_live_in.Given as goal

abbrev pub invariant-loop-day : goal.invariant-loop-day
invariant-loop-day g l =
    let p = g.P.Path.problem l.path in
    l.cells.items ≡ l.fn.cells.items ++ filter (is_live p (g.P.Path.facts l.path))
    (flat_map (cells_on p l.course l.room) (range_below l.day))

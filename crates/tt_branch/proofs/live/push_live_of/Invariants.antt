use Rattle.std.proofs.Common.{◌≡◌, ◌++◌}
use Rattle.std.specs.Prelude.{filter, flat_map}
use Rattle.tt_list_laws.specs.Words.{range_below}
use Rattle.tt_path.specs.Live.{is_live}
use Rattle.tt_branch.specs.Inner.Steps.{cells_in}
use Rattle.tt_branch.proofs.live.push_live_of.Given as goal

abbrev pub invariant-loop-room : goal.invariant-loop-room
invariant-loop-room g l =
    let p = g.P.Path.problem l.path in
    l.cells.items ≡ l.fn.cells.items ++ filter (is_live p (g.P.Path.facts l.path)) (flat_map (cells_in p l.course) (range_below l.room))

use Rattle.std.proofs.Common.{◌≡◌}
use Rattle.std.specs.Prelude.{filter, flat_map}
use Rattle.tt_list_laws.specs.Words.{range_below}
use Rattle.tt_path.specs.Live.{is_live}
use Rattle.tt_branch.specs.Inner.Steps.{cells_of}
use Rattle.tt_branch.proofs.live.live_cells.Given as goal

abbrev pub invariant-loop-course : goal.invariant-loop-course
invariant-loop-course g l =
    let p = g.P.Path.problem l.path in
    l.cells.items ≡ filter (is_live p (g.P.Path.facts l.path)) (flat_map (cells_of p) (range_below l.course))

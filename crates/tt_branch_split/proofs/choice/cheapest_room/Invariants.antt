use Rattle.tt_instance.specs.Cells.{InRange}
use Rattle.tt_branch_split.specs.Choice.{IsFree}
use Rattle.tt_branch_split.proofs.choice.cheapest_room.Given as goal

abbrev pub invariant-loop-room : goal.invariant-loop-room
invariant-loop-room g l = record {
  range : InRange (g.P.Path.problem l.path) l.found;
  free : IsFree (g.P.Path.problem l.path) (g.P.Path.facts l.path) l.found;
}

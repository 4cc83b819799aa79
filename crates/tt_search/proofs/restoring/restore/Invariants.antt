use Rattle.std.proofs.Common.{◌≡◌, take}
use Rattle.tt_walk.specs.Improved.{courses_of}
use Rattle.tt_search.proofs.restoring.restore.Given as goal

abbrev pub invariant-loop-index : goal.invariant-loop-index
invariant-loop-index l = record {
  problem : l.occupied.problem ≡ l.initial.occupied.problem;
  courses : courses_of l.occupied.entries ≡ courses_of l.entries;
  front : take l.index l.occupied.entries ≡ take l.index l.entries;
}

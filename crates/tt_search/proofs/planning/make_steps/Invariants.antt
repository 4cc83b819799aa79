use Rattle.std.proofs.Common.{◌≡◌}
use Rattle.tt_walk.specs.Improved.{courses_of, LeadsWithin}
use Rattle.tt_search.proofs.planning.make_steps.Given as goal

abbrev pub invariant-loop-step : goal.invariant-loop-step
invariant-loop-step l = record {
  problem : l.occupied.problem ≡ l.initial.occupied.problem;
  courses : courses_of l.occupied.entries ≡ courses_of l.initial.occupied.entries;
  reached : LeadsWithin l.initial.occupied.problem l.initial.occupied.entries l.step-index l.occupied.entries;
}

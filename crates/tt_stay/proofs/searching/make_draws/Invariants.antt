use Rattle.std.proofs.Common.{◌≡◌, map}
use Rattle.tt_stay.specs.Rearranged.{IsRearranged}
use Rattle.tt_stay.proofs.searching.make_draws.Given as goal

abbrev pub invariant-loop : goal.invariant-loop
invariant-loop g l = record {
  problem : l.occupied.problem ≡ l.initial.occupied.problem;
  courses : map (λ e. e.course) l.occupied.entries ≡ map (λ e. e.course) l.initial.occupied.entries;
  table : IsRearranged l.initial.occupied.problem l.initial.occupied.entries l.nearest.table;
}

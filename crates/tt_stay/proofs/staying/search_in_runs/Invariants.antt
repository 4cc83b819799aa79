use Rattle.tt_stay.specs.Rearranged.{IsRearranged}
use Rattle.tt_stay.proofs.staying.search_in_runs.Given as goal

abbrev pub invariant-loop-run : goal.invariant-loop-run
invariant-loop-run g l = IsRearranged l.instance l.initial.table l.table

use Rattle.std.proofs.Common.{refl}
use Rattle.tt_stay.proofs.Rearranging.{rearranged_self, rearranged_then}
use Rattle.tt_stay.proofs.staying.search_in_runs.Goals as goal

pub loop-run-init : goal.loop-run-init
loop-run-init g c = rearranged_self _ _ _ refl c.requires

pub search_near-requires : goal.search_near-requires
search_near-requires g c = c.loop-run.invariant.in_range

pub loop-run-preserved : goal.loop-run-preserved
loop-run-preserved g c = rearranged_then _ _ _ _ c.loop-run.invariant c.in_ok-table.ensures

use Rattle.std.proofs.Common.{◌≡◌, ℕ, ◌<◌, true}
use Rattle.tt_list_laws.specs.Words.{has_number}
use Rattle.tt_occupancy.specs.Filled.{entry_at}
use Rattle.tt_moves_chain.specs.Chains.{linked}
use Rattle.tt_moves_chain.proofs.kempe.Chain.has_links_of.Given as goal

abbrev pub invariant-loop-other : goal.invariant-loop-other
invariant-loop-other l =
    (k : ℕ) → k < l.other → linked l.occupied.problem l.self.from l.self.to (entry_at l.occupied.entries l.index)
    (entry_at l.occupied.entries k) ≡ true → has_number l.self.members k ≡ true

use Rattle.std.proofs.Common.{ℕ, ◌<◌, get_or}
use Rattle.tt_moves_chain.specs.Answers.{MayTurn}
use Rattle.tt_moves_chain.proofs.kempe.Chain.is_of.Given as goal

abbrev pub invariant-loop-member : goal.invariant-loop-member
invariant-loop-member l =
    (k : ℕ) → k < l.member-index → MayTurn l.occupied.problem l.occupied.entries l.self.from l.self.to l.self.members
    (get_or l.member-items k 0)

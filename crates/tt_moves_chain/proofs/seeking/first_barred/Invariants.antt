use Rattle.std.proofs.Common.{◌≡◌, ℕ, ◌<◌, false, get_or}
use Rattle.tt_moves_chain.specs.Answers.{is_shut}
use Rattle.tt_moves_chain.proofs.seeking.first_barred.Given as goal

abbrev pub invariant-loop-member : goal.invariant-loop-member
invariant-loop-member l = (k : ℕ) → k < l.member-index → is_shut l.occupied.problem l.occupied.entries l.pair.from l.pair.to
    (get_or l.members k 0) ≡ false

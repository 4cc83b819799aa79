use Rattle.std.proofs.Common.{◌≡◌, take}
use Rattle.tt_list_laws.specs.Words.{has_number}
use Rattle.tt_moves_chain.specs.Chains.{swapped}
use Rattle.tt_moves_chain.proofs.turning.swap_chain.Given as goal

abbrev pub invariant-loop-member : goal.invariant-loop-member
invariant-loop-member l =
    l.occupied ≡ record {
      problem = l.initial.occupied.problem;
      entries = swapped l.chain.from l.chain.to
          (has_number (take l.member-index l.member-items)) l.initial.occupied.entries;
    }

use Rattle.std.proofs.Common.{◌≡◌, ℕ, not, ◌&&◌, false, take, slice_index_or}
use Rattle.tt_list_laws.specs.Words.{has_number}
use Rattle.tt_proof_read.proofs.seen.unmark.Given as goal

abbrev pub invariant-loop-number : goal.invariant-loop-number
invariant-loop-number l = (k : ℕ) → slice_index_or l.marks k false ≡
    (slice_index_or l.fn.marks k false && not (has_number (take l.number-index l.numbers) k))

use Rattle.std.proofs.Common.{◌≡◌, ℕ, ◌+◌, ◌*◌, None, map}
use Rattle.tt_list_laws.specs.Words.{range_below}
use Rattle.tt_proof_sum.specs.Tables.{first_owner}
use Rattle.tt_proof_sum.proofs.table.Table.first_owner_of_rooms.Given as goal

abbrev pub invariant-loop-course : goal.invariant-loop-course
invariant-loop-course l = record { free : first_owner l.fn.self (map (λ (n : ℕ). 4 * n + l.kind) (range_below l.course)) ≡ None }

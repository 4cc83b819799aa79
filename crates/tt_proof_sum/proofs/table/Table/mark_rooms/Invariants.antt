use Rattle.std.proofs.Common.{ℕ, ◌+◌, ◌*◌, map}
use Rattle.tt_list_laws.specs.Words.{range_below}
use Rattle.tt_proof_sum.specs.Tables.{Marks}
use Rattle.tt_proof_sum.proofs.table.Table.mark_rooms.Given as goal

abbrev pub invariant-loop-course : goal.invariant-loop-course
invariant-loop-course l = record { marks : Marks l.fn.self (map (λ (n : ℕ). 4 * n + l.kind) (range_below l.course)) l.self }

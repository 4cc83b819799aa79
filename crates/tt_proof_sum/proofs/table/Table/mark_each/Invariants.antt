use Rattle.std.proofs.Common.{ℕ, ◌+◌, ◌*◌, map, take}
use Rattle.tt_proof_sum.specs.Tables.{Marks}
use Rattle.tt_proof_sum.proofs.table.Table.mark_each.Given as goal

abbrev pub invariant-loop-number : goal.invariant-loop-number
invariant-loop-number l = record { marks : Marks l.fn.self (map (λ (n : ℕ). 4 * n + l.kind) (take l.number-index l.numbers)) l.self }

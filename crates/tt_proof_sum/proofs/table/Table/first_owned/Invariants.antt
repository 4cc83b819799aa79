use Rattle.std.proofs.Common.{◌≡◌, ℕ, ◌+◌, ◌*◌, None, map, take}
use Rattle.tt_proof_sum.specs.Tables.{first_owner}
use Rattle.tt_proof_sum.proofs.table.Table.first_owned.Given as goal

abbrev pub invariant-loop-number : goal.invariant-loop-number
invariant-loop-number l = record { free : first_owner l.fn.self (map (λ (n : ℕ). 4 * n + l.kind) (take l.number-index l.numbers)) ≡ None }

use Rattle.std.proofs.Common.{ℕ, ◌+◌, ◌*◌, List, map, subst}
use Rattle.tt_proof_sum.specs.Tables.{Marks}
use Rattle.tt_proof_sum.proofs.Owners.{group_marks}
use Rattle.tt_proof_sum.proofs.table.Table.mark_group.Goals as goal

pub returns : goal.returns
returns c =
    let a = c.args.self.now in
    let b = c.mark_each.new.self in
    let d = c.mark_each-2.new.self in
    group_marks a b d c.args.group.now
    (subst (λ (l : List ℕ). Marks a (map (λ (n : ℕ). 4 * n + 2) l) b) c.curricula.ensures c.mark_each.ensures)
    (subst (λ (l : List ℕ). Marks b (map (λ (n : ℕ). 4 * n + 1) l) d) c.courses.ensures c.mark_each-2.ensures)

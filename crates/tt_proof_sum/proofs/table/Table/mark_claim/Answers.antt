use Rattle.std.proofs.Common.{ℕ, ◌+◌, ◌*◌, List, map, subst}
use Rattle.tt_proof_sum.specs.Tables.{Marks}
use Rattle.tt_proof_sum.proofs.OwnersOfPrices.{marks_without_rooms, marks_with_rooms}
use Rattle.tt_proof_sum.proofs.table.Table.mark_claim.Goals as goal

pub returns-then-claim : goal.returns-then-claim
returns-then-claim c =
    let a = c.args.self.now in
    let b = c.mark_each.new.self in
    let d = c.mark_each-2.new.self in
    marks_with_rooms a b d c.args.courses c.args.claim.now
    (subst (λ (l : List ℕ). Marks a (map (λ (n : ℕ). 4 * n + 2) l) b) c.deref.ensures.value c.mark_each.ensures)
    (subst (λ (l : List ℕ). Marks b (map (λ (n : ℕ). 4 * n + 1) l) d) c.deref-2.ensures.value c.mark_each-2.ensures)
    c.mark_rooms.new.self c.mark_rooms-then-claim.new.self c.if-claim.true c.mark_rooms.ensures c.mark_rooms-then-claim.ensures

pub returns-else-claim : goal.returns-else-claim
returns-else-claim c =
    let a = c.args.self.now in
    let b = c.mark_each.new.self in
    let d = c.mark_each-2.new.self in
    marks_without_rooms a b d c.args.courses c.args.claim.now
    (subst (λ (l : List ℕ). Marks a (map (λ (n : ℕ). 4 * n + 2) l) b) c.deref.ensures.value c.mark_each.ensures)
    (subst (λ (l : List ℕ). Marks b (map (λ (n : ℕ). 4 * n + 1) l) d) c.deref-2.ensures.value c.mark_each-2.ensures) c.if-claim.false

use Rattle.std.proofs.Common.{ℕ, ◌+◌, ◌*◌, Some, sym, ap, ◌∙◌}
use Rattle.tt_proof_sum.proofs.Owners.{none_more, owner_found}
use Rattle.tt_proof_sum.proofs.table.Table.first_owner.Goals as goal

pub returns-then-owner-ne0 : goal.returns-then-owner-ne0
returns-then-owner-ne0 c =
    let e = c.owner-owner.ensures in
    ap (λ (o : ℕ). Some o) e
    ∙ owner_found c.args.self.now (λ (n : ℕ). 4 * n + c.args.kind) c.args.numbers.now c.loop-number.number-index 0
    c.loop-number-test.true c.loop-number.invariant.free (λ none. c.if-owner-ne0.true (e ∙ none))

pub loop-number-preserved : goal.loop-number-preserved
loop-number-preserved c = record {
  free = none_more c.args.self.now (λ (n : ℕ). 4 * n + c.args.kind) c.args.numbers.now c.loop-number.number-index 0
      c.loop-number-test.true c.loop-number.invariant.free (sym c.owner-owner.ensures ∙ c.if-owner-ne0.false);
}

use Rattle.std.proofs.Common.{ℕ, ◌+◌, ◌*◌, sym, ◌∙◌}
use Rattle.tt_proof_sum.proofs.Owners.{none_more}
use Rattle.tt_proof_sum.proofs.OwnersOfPrices.{number_found}
use Rattle.tt_proof_sum.proofs.table.Table.first_owned.Goals as goal

pub returns-then-owner-ne0-clause-some : goal.returns-then-owner-ne0-clause-some
returns-then-owner-ne0-clause-some c =
    number_found c.args.self.now c.args.kind c.args.numbers.now c.loop-number.number-index 0 c.owner-owner.result
    c.loop-number-test.true c.loop-number.invariant.free c.owner-owner.ensures c.if-owner-ne0.true

pub loop-number-preserved : goal.loop-number-preserved
loop-number-preserved c = record {
  free = none_more c.args.self.now (λ (n : ℕ). 4 * n + c.args.kind) c.args.numbers.now c.loop-number.number-index 0
      c.loop-number-test.true c.loop-number.invariant.free (sym c.owner-owner.ensures ∙ c.if-owner-ne0.false);
}

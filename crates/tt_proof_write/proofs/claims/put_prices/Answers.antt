use Rattle.std.proofs.Common.{arith, refl}
use Rattle.std.proofs.lemmas.Grind.{common_steps}
use Rattle.tt_proof_write.specs.Inner.Numbers.{IsNarrowPair}
use Rattle.tt_proof_write.specs.Written.{priced_pieces}
use Rattle.tt_proof_write.proofs.TextLaws.{rows_written}
use Rattle.tt_proof_write.proofs.claims.put_prices.Goals as goal
use Rattle.tt_list_laws.proofs.Beginnings.{All_more}

pub loop-number-preserved : goal.loop-number-preserved
loop-number-preserved c = record {
  text = grind (arith, common_steps);
  narrow = All_more IsNarrowPair c.args.prices.now c.loop-number.number-index _ _ c.loop-number-test.true refl
      c.loop-number.invariant.narrow (c.in_ok-put_index.ensures.narrow, c.in_ok-put_price.ensures.narrow);
}

pub returns-clause-text : goal.returns-clause-text
returns-clause-text c = rows_written (priced_pieces c.args.letter) c.args.prices.now c.loop-number.number-index c.args.out.now.items
    c.loop-number.out.items c.loop-number.invariant.text c.loop-number-test.false

use Rattle.std.proofs.Common.{length, ap, ◌∙◌, arith}
use Rattle.std.proofs.lemmas.List.{length-set}
use Rattle.tt_instance.specs.Cells.{slot}
use Rattle.tt_instance.specs.Problem.{Problem}
use Rattle.tt_leaf_rules.specs.Inner.Nested.{priced_live_in}
use Rattle.tt_leaf_rules.proofs.Covering.{word_more}
use Rattle.tt_leaf_rules.proofs.prices.open_words.Goals as goal

pub loop-block-preserved : goal.loop-block-preserved
loop-block-preserved g c =
    let p = g.P.Path.problem c.args.path.now in
    record {
      len = length-set c.loop-block.words c.loop-block.block c.open_block.result ∙ c.loop-block.invariant.len;
      before = word_more c.loop-block.words c.loop-block.block c.open_block.result (length p.rooms)
          (λ r. priced_live_in p (g.P.Path.facts c.args.path.now) c.args.courses.now r (slot c.args.day c.args.period))
          (omega (arith, c.loop-block.invariant.len, c.loop-block-test.true, c.block_count-block-end.ensures.within))
          c.open_block.ensures c.loop-block.invariant.before;
    }

pub returns : goal.returns
returns g c = λ r there.
    c.loop-block.invariant.before r
    (omega (
      arith,
      there,
      c.block_count-block-end.ensures.whole,
      c.loop-block-test.false,
      ap (λ (q : Problem). length q.rooms) c.instance.ensures,
    )) there

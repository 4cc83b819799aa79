use Rattle.std.proofs.Common.{◌*◌, ◌^◌, subst, arith, pos, ◌+ℤ◌}
use Rattle.std.specs.Prelude.{IsTrue}
use Rattle.tt_prices_file.specs.Files.{Reaches}
use Rattle.tt_prices_file.proofs.Accounted.{word_128}
use Rattle.tt_prices_file.proofs.Totalled.{not_reached}
use Rattle.tt_prices_file.proofs.total.finish.Goals as goal

pub returns-then-not-reaches-clause-fault : goal.returns-then-not-reaches-clause-fault
returns-then-not-reaches-clause-fault c = λ xs account. (
  c.in_ok-total.total,
  c.in_ok-total.ensures.total c.args.header xs account,
  not_reached c.reaches.result (pos (c.args.header.scale * c.args.header.bound)) (c.in_ok-total.total +ℤ pos c.args.header.scale)
      c.if-not-reaches.true
      (subst (λ z. Reaches c.args.header z → IsTrue c.reaches.result)
      (word_128 (2 ^ 100) c.in_ok-total.total (omega arith) c.in_ok-total.ensures.small) c.reaches.ensures.1),
)

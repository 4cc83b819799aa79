use Rattle.std.proofs.Common.{◌≡◌, ◌≤◌, sym, subst, arith}
use Rattle.std.specs.Prelude.{All}
use Rattle.tt_leaf.specs.Ranges.{ArePrices}
use Rattle.tt_leaf_find.proofs.priced.list_prices.Goals as goal

pub loop-number-preserved : goal.loop-number-preserved
loop-number-preserved c = record { prices = c.in_ok-push_price.ensures.prices; short = c.in_ok-push_price.ensures.short }

pub returns-clause-prices : goal.returns-clause-prices
returns-clause-prices c =
    let all : c.loop-number.number ≡ c.args.count = omega arith in
    subst (ArePrices c.args.count) (sym c.new.ensures)
    (subst (λ n. ArePrices n c.loop-number.list.items) all c.loop-number.invariant.prices)

pub returns-clause-short : goal.returns-clause-short
returns-clause-short c = subst (All (λ k. k.1 ≤ 1000000)) (sym c.new.ensures) c.loop-number.invariant.short

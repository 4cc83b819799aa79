use Rattle.std.proofs.Common.{◌+◌, sym, subst}
use Rattle.tt_leaf.specs.Ranges.{ArePrices}
use Rattle.tt_leaf_find.proofs.Pricing.{prices_same, prices_more}
use Rattle.tt_leaf_find.proofs.priced.push_price.Goals as goal

pub returns-then-price-eq0-clause-prices : goal.returns-then-price-eq0-clause-prices
returns-then-price-eq0-clause-prices c = prices_same c.args.list.now.items c.args.number c.requires.prices

pub returns-clause-prices : goal.returns-clause-prices
returns-clause-prices c = subst (ArePrices (c.args.number + 1)) (sym c.in_ok-push.ensures.items)
    (prices_more c.args.list.now.items c.args.number _ c.requires.prices)

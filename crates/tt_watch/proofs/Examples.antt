-- Comparisons of pairs.
use Rattle.std.proofs.Common.{refl, inl, inr, lit<}
use Rattle.tt_watch.specs.Inner.Pairs.{IsLowerPair}

-- a hard rule weighs more than any cost
hard_first : IsLowerPair (record { hard = 0; cost = 900 }) (record { hard = 1; cost = 0 })
hard_first = inl (lit< tt)

-- the cost decides between equal hard counts
cost_second : IsLowerPair (record { hard = 2; cost = 4 }) (record { hard = 2; cost = 5 })
cost_second = inr (refl, lit< tt)

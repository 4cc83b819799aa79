-- Pairs of a hard count and a cost.
use Rattle.std.specs.Prelude.{◌≡◌, ◌<◌, ◌⊎◌}
use Rattle.tt_watch.specs.declared.pair.Pair.{Pair}

-- whether the first pair is below the second: fewer broken hard rules, or equally many at a lower cost
abbrev pub IsLowerPair : Pair → Pair → Type 0
IsLowerPair a b = (a.hard < b.hard) ⊎ ((a.hard ≡ b.hard) × (a.cost < b.cost))

-- Changes of a score.
use Rattle.std.specs.Prelude.{◌≡◌, ℕ, ◌<◌, ◌⊎◌, List}
use Rattle.tt_instance.specs.Problem.{Problem}
use Rattle.tt_instance.specs.declared.cell.Cell.{Cell}
use Rattle.tt_rules.specs.Score.{hard, cost}

-- whether one hard count and cost is below another: fewer broken hard rules, or equally many at a lower cost
abbrev pub IsLower : ℕ → ℕ → ℕ → ℕ → Type 0
IsLower hard_one cost_one hard_other cost_other = (hard_one < hard_other) ⊎ ((hard_one ≡ hard_other) × (cost_one < cost_other))

-- whether the first timetable's hard count and cost are below the second's
abbrev pub IsBelow : Problem → List Cell → List Cell → Type 0
IsBelow p s t = IsLower (hard p s) (cost p s) (hard p t) (cost p t)

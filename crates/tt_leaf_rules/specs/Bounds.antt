-- What a bound says about a cost.
use Rattle.std.specs.Prelude.{ℕ, ◌≤◌}
use Rattle.tt_leaf.specs.declared.leaf.Bound.{Bound}
use Rattle.tt_leaf.specs.declared.leaf.Bound.TheVariants.{AtLeast, Nothing}

-- The cost is at least the bound; `Nothing` says that no such timetable exists.
abbrev pub Respects : Bound → ℕ → Type 0
Respects (AtLeast b) n = b ≤ n
Respects Nothing n = ⊥

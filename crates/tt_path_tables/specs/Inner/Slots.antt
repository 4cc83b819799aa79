-- Periods of the week as numbers, day by day. These are steps of the code.
use Rattle.std.specs.Prelude.{◌≡◌, ℕ, ◌+◌, ◌*◌, ◌/◌, ◌%◌, ◌<◌, ◌≤◌, Bool, true, false, ◌&&◌, List}
use Rattle.tt_instance.specs.Problem.{Problem}
use Rattle.tt_path.specs.Facts.{agrees}
use Rattle.tt_path.specs.declared.facts.Pattern.{Pattern}
use Rattle.tt_path_tables.specs.Inner.Struck.{is_left}

-- The pattern allows the day and the period.
abbrev pub is_allowed : Problem → Pattern → ℕ → Bool
is_allowed p g k = agrees g.day (k / p.periods) && agrees g.period (k % p.periods)

-- The pattern allows the period, and one of the courses has a free room there.
abbrev pub is_left_in : Problem → List ℕ → Pattern → List ℕ → ℕ → Bool
is_left_in p free g ks k = is_allowed p g k && is_left p free g (k / p.periods) (k % p.periods) ks

-- Each period that the pattern allows has a number that is at least the first bound and below the second.
pub record Covers (p : Problem) (g : Pattern) (from to : ℕ) : Type 0 where
  pub within : to ≤ p.days * p.periods
  pub all : (d s : ℕ) → d < p.days → s < p.periods → agrees g.day d ≡ true → agrees g.period s ≡ true → (from ≤ d * p.periods + s) × (d * p.periods + s < to)

-- No number from the first bound on and below the second passes.
pub record IsNone (t : ℕ → Bool) (from to : ℕ) : Type 0 where
  pub none : (k : ℕ) → from ≤ k → k < to → t k ≡ false

-- k is the first number from the first bound on and below the second that passes.
pub record IsFirst (t : ℕ → Bool) (from to k : ℕ) : Type 0 where
  pub from_here : from ≤ k
  pub within : k < to
  pub passes : t k ≡ true
  pub before : (j : ℕ) → from ≤ j → j < k → t j ≡ false

-- The headline: the conditions under which the bytes of an instance, a solution and a proof certify a cost and a lower bound.
use Rattle.std.specs.Prelude.{◌≡◌, ℕ, ◌<◌, List, []}
use Rattle.tt_instance.specs.Problem.{Problem}
use Rattle.tt_instance.specs.Spelling.{Spells}
use Rattle.tt_instance.specs.declared.cell.Cell.{Cell}
use Rattle.tt_table.specs.Spelling.{SpellsBoth}
use Rattle.tt_rules.specs.Score.{IsFeasible, hard, cost}
use Rattle.tt_leaf.specs.declared.leaf.Bound.TheVariants.{AtLeast}
use Rattle.tt_proof_check.specs.Derives.{HoldsOfAll}
use Rattle.tt_proof_check.specs.Streams.{IsProved}

-- the timetable breaks no hard rule of the instance and costs c by the competition's definition
pub record Solves (instance solution : List ℕ) (c : ℕ) : Type 0 where
  pub problem : Problem
  pub table : List Cell
  pub both : SpellsBoth instance solution problem table
  pub feasible : IsFeasible problem table
  pub costs : cost problem table ≡ c

-- the timetable breaks a hard rule of the instance
pub record BreaksARule (instance solution : List ℕ) : Type 0 where
  pub problem : Problem
  pub table : List Cell
  pub both : SpellsBoth instance solution problem table
  pub some : 0 < hard problem table

-- the solution respects the hard rules at the cost c, as the competition counts it, and the proof derives that nothing feasible costs less than b
pub record Certifies (instance solution proof : List ℕ) (c b : ℕ) : Type 0 where
  pub solves : Solves instance solution c
  pub proved : IsProved solves.problem [] proof (AtLeast b)

-- every timetable of the instance that breaks no hard rule costs at least b
abbrev pub BoundsAll : List ℕ → ℕ → Type 0
BoundsAll instance b = (p : Problem) → Spells instance p → HoldsOfAll p (AtLeast b)

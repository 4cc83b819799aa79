-- The result of a search for a best timetable.
use Rattle.std.specs.Prelude.{Bool, List, [], Option, IfSome}
use Rattle.tt_instance.specs.Problem.{Problem}
use Rattle.tt_instance.specs.declared.cell.Cell.{Cell}
use Rattle.tt_table.specs.Table.{IsTimetable}
use Rattle.tt_rules.specs.Score.{IsFeasible}
use Rattle.tt_moves.specs.Changes.{IsBelow}
use Rattle.tt_search.specs.Constructed.{IsConstructed}
use Rattle.tt_search.specs.Descent.{IsDescent}
use Rattle.tt_branch.specs.declared.limit.TheConstants.{FIRST_STEPS}
use Rattle.tt_path.specs.declared.facts.Fact.{Fact}
use Rattle.tt_parts.specs.Found.{AreFoundOn}
use Rattle.tt_best.specs.declared.week.Week.{Week}

-- The entries are a timetable of the instance. Each proof spells a part that is right, with these facts at the roots of trees, no target is claimed by
-- two of them, and their sum holds for every feasible timetable that fits the facts.
pub record IsWeekOn (p : Problem) (root : List Fact) (w : Week) : Type 0 where
  pub table : IsTimetable p w.table
  pub parts : AreFoundOn p root w.parts

-- `IsWeekOn` without facts at the roots.
abbrev pub IsWeek : Problem → Week → Type 0
IsWeek p w = IsWeekOn p [] w

-- The first timetable's hard count and cost are not below the second's: it breaks more hard rules, or as many and costs at least as much.
abbrev pub IsNoHigher : Problem → List Cell → List Cell → Type 0
IsNoHigher p t u = IsBelow p t u → ⊥

-- If a timetable is given, the other one is no worse: it breaks fewer hard rules, or as many and costs at most as much.
abbrev pub IsNoWorseThan : Problem → Option (List Cell) → List Cell → Type 0
IsNoWorseThan p given t = IfSome given (λ g. IsNoHigher p g t)

-- A descent of at most 10,000 steps from a constructed timetable: if it leads to a feasible one, this timetable is no worse.
pub record BeginsWell (p : Problem) (t : List Cell) : Type 0 where
  pub start : List Cell
  pub constructed : IsConstructed p start
  pub end : List Cell
  pub settled : Bool
  pub descent : IsDescent p start FIRST_STEPS end settled
  pub kept : IsFeasible p end → IsNoHigher p end t

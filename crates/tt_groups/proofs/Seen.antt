-- A feasible timetable is a relaxed timetable of each group.
use Rattle.std.proofs.Common.{ℕ, ◌≤◌, List, arith}
use Rattle.std.specs.Prelude.{Contains}
use Rattle.std.proofs.lemmas.Bool.{both_ways}
use Rattle.tt_list_laws.proofs.Counting.{pairs_none}
use Rattle.tt_list_laws.proofs.Members.{none_counted}
use Rattle.tt_instance.specs.Problem.{Problem}
use Rattle.tt_instance.specs.Courses.{unavailable}
use Rattle.tt_instance.specs.declared.cell.Cell.{Cell}
use Rattle.tt_rules.specs.Hard.{collide}
use Rattle.tt_rules.specs.Score.{IsFeasible}
use Rattle.tt_rules.proofs.Feasible.{lectures_met, in_distinct_periods, no_collision, available}
use Rattle.tt_groups.specs.Group.{Group, group_cost, concerns, entries_for, IsRelaxedTimetable, IsGroupBound}
use Rattle.tt_groups.proofs.Lists.{member_before}

module _ (p : Problem) (t : List Cell) (ok : IsFeasible p t) where
  pub feasible_relaxed : (g : Group) → IsRelaxedTimetable p g t
  feasible_relaxed g =
      let kept : (x : Cell) → Contains (entries_for p g t) x → Contains t x = member_before (λ e. concerns p g e.course) t in
      record {
        lectures = λ c own. let e = lectures_met p t ok c in let k = in_distinct_periods p t ok c in omega arith;
        conflicts = pairs_none (collide p) (entries_for p g t) (λ x y hx hy e. no_collision p t ok x y (kept x hx) (kept y hy) e);
        availability = none_counted (λ e. unavailable p e.course e.day e.period) (entries_for p g t)
            (λ x m e. both_ways (unavailable p x.course x.day x.period) (available p t ok x (kept x m)) e);
      }

  -- so it costs at least a group's bound
  pub group_bound_holds : (g : Group) (b : ℕ) → IsGroupBound p g b → b ≤ group_cost p g t
  group_bound_holds g b bound = bound t (feasible_relaxed g)

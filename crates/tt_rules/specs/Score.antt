-- The score of a timetable, and when it breaks no hard rule.
use Rattle.std.specs.Prelude.{◌≡◌, ℕ, ◌+◌, List}
use Rattle.tt_instance.specs.Problem.{Problem}
use Rattle.tt_instance.specs.declared.cell.Cell.{Cell}
use Rattle.tt_table.specs.Table.{IsTimetable}
use Rattle.tt_rules.specs.Hard.{lectures_count, conflicts_count, availability_count, occupancy_count}
use Rattle.tt_rules.specs.Soft.{capacity_count, days_count, compactness_count, stability_count}
use Rattle.tt_rules.specs.declared.counts.Score.{Score}

-- The fields of the score are the eight counts of the timetable.
pub record IsScore (p : Problem) (t : List Cell) (s : Score) : Type 0 where
  pub lectures : s.lectures ≡ lectures_count p t
  pub conflicts : s.conflicts ≡ conflicts_count p t
  pub availability : s.availability ≡ availability_count p t
  pub room_occupancy : s.room_occupancy ≡ occupancy_count p t
  pub room_capacity : s.room_capacity ≡ capacity_count p t
  pub min_working_days : s.min_working_days ≡ days_count p t
  pub compactness : s.compactness ≡ compactness_count p t
  pub room_stability : s.room_stability ≡ stability_count p t

-- The sum of the counts of the four hard rules.
abbrev pub hard : Problem → List Cell → ℕ
hard p t = lectures_count p t + conflicts_count p t + availability_count p t + occupancy_count p t

-- The cost of a timetable by the competition's definition.
abbrev pub cost : Problem → List Cell → ℕ
cost p t = capacity_count p t + days_count p t + compactness_count p t + stability_count p t

-- A timetable that breaks no hard rule.
pub record IsFeasible (p : Problem) (t : List Cell) : Type 0 where
  pub timetable : IsTimetable p t
  pub lectures : lectures_count p t ≡ 0
  pub conflicts : conflicts_count p t ≡ 0
  pub availability : availability_count p t ≡ 0
  pub room_occupancy : occupancy_count p t ≡ 0

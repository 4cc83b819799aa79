-- The cost of some curricula and courses in a timetable, and bounds of that cost. Rules and costs are those of the Second International
-- Timetabling Competition (ITC-2007), track 3, as the technical report of Di Gaspero, McCollum and Schaerf defines them.
use Rattle.std.specs.Prelude.{◌≡◌, ℕ, ◌+◌, ◌≤◌, Bool, true, ◌||◌, List, filter, sum_by}
use Rattle.std.specs.List.{list_any}
use Rattle.tt_list_laws.specs.Words.{has_number}
use Rattle.tt_instance.specs.Problem.{Problem}
use Rattle.tt_instance.specs.Courses.{in_curriculum}
use Rattle.tt_instance.specs.declared.cell.Cell.{Cell}
use Rattle.tt_rules.specs.Hard.{lectures_off, conflicts_count, availability_count}
use Rattle.tt_rules.specs.Soft.{days_cost, compactness_cost}

-- A group lists some curricula and some courses of an instance, by their numbers.
pub record Group : Type 0 where
  pub curricula : List ℕ
  pub courses : List ℕ

-- The cost of a group adds the compactness of its curricula (2 for each isolated lecture) and the working days of its courses
-- (5 for each day below the minimum).
abbrev pub group_cost : Problem → Group → List Cell → ℕ
group_cost p g t = sum_by (compactness_cost p t) g.curricula + sum_by (days_cost p t) g.courses

-- A group concerns its own courses and the members of its curricula.
abbrev pub concerns : Problem → Group → ℕ → Bool
concerns p g c = has_number g.courses c || list_any (λ q. in_curriculum p q c) g.curricula

-- The entries for a group are the lectures of the courses that it concerns.
abbrev pub entries_for : Problem → Group → List Cell → List Cell
entries_for p g t = filter (λ e. concerns p g e.course) t

-- A relaxed timetable has all lectures of each course that the group concerns, in distinct periods; no two of these courses that conflict
-- (by a teacher or a curriculum in common) share a period, and each has its lectures where it is available.
-- Rooms and all other courses don't count.
pub record IsRelaxedTimetable (p : Problem) (g : Group) (t : List Cell) : Type 0 where
  pub lectures : (c : ℕ) → concerns p g c ≡ true → lectures_off p t c ≡ 0
  pub conflicts : conflicts_count p (entries_for p g t) ≡ 0
  pub availability : availability_count p (entries_for p g t) ≡ 0

-- A bound of a group is a number that is at most the group's cost in each relaxed timetable.
abbrev pub IsGroupBound : Problem → Group → ℕ → Type 0
IsGroupBound p g b = (t : List Cell) → IsRelaxedTimetable p g t → b ≤ group_cost p g t

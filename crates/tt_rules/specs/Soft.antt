-- The four soft costs with the competition's weights 1, 5, 2 and 1 (International Timetabling Competition 2007, track 3: Room
-- capacity, Minimum working days, Curriculum compactness, Room stability).
use Rattle.std.specs.Prelude.{ℕ, ◌-◌, ◌*◌, Bool, not, ◌&&◌, List, sum_by, count_by}
use Rattle.std.specs.List.{list_any}
use Rattle.tt_instance.specs.declared.limit.TheConstants.{ISOLATED_COST, MISSING_DAY_COST}
use Rattle.tt_instance.specs.Problem.{Problem}
use Rattle.tt_instance.specs.Cells.{all_courses, all_rooms, all_curricula, all_days, slot_of, next_to, is_of, is_in, is_on}
use Rattle.tt_instance.specs.Courses.{min_days, in_curriculum, excess}
use Rattle.tt_instance.specs.declared.cell.Cell.{Cell}

-- Room capacity: each student without a seat, in each entry.
abbrev pub capacity_count : Problem → List Cell → ℕ
capacity_count p t = sum_by (λ e. excess p e.course e.room) t

-- The number of days on which the course is taught.
abbrev pub days_of : Problem → List Cell → ℕ → ℕ
days_of p t c = count_by (λ d. list_any (λ e. is_of c e && is_on d e) t) (all_days p)

-- 5 for each day below the minimum.
abbrev pub days_cost : Problem → List Cell → ℕ → ℕ
days_cost p t c = MISSING_DAY_COST * (min_days p c - days_of p t c)

-- Minimum working days.
abbrev pub days_count : Problem → List Cell → ℕ
days_count p t = sum_by (days_cost p t) (all_courses p)

-- No entry of the curriculum is one period before or after it on the same day; days don't join.
abbrev pub is_isolated : Problem → List Cell → ℕ → Cell → Bool
is_isolated p t q e = not (list_any (λ x. in_curriculum p q x.course && next_to (slot_of x) (slot_of e)) t)

-- 2 for each isolated entry of the curriculum.
abbrev pub compactness_cost : Problem → List Cell → ℕ → ℕ
compactness_cost p t q = ISOLATED_COST * count_by (λ e. in_curriculum p q e.course && is_isolated p t q e) t

-- Curriculum compactness.
abbrev pub compactness_count : Problem → List Cell → ℕ
compactness_count p t = sum_by (compactness_cost p t) (all_curricula p)

-- Each room of the course except the first.
abbrev pub stability_cost : Problem → List Cell → ℕ → ℕ
stability_cost p t c = count_by (λ r. list_any (λ e. is_of c e && is_in r e) t) (all_rooms p) - 1

-- Room stability.
abbrev pub stability_count : Problem → List Cell → ℕ
stability_count p t = sum_by (stability_cost p t) (all_courses p)

-- The limits on the courses of an instance.
use Rattle.std.proofs.Common.{◌≡◌, ℕ, zero, suc, ◌+◌, ◌≤◌, refl, ◌<◌, List, length, take, get_or, ap, ◌∙◌, sym, subst, arith}
use Rattle.std.specs.Prelude.{sum_by, All}
use Rattle.std.proofs.lemmas.List.{take_all}
use Rattle.std.proofs.lemmas.List.Sums.{sum_by_more, get_or-le-sum_by}
use Rattle.tt_list_laws.specs.Words.{range_below}
use Rattle.tt_list_laws.proofs.Numbers.{sum_more}
use Rattle.tt_instance.specs.Problem.{Problem, Course}
use Rattle.tt_instance.specs.Limits.{IsWithinLimits, IsInstance}
use Rattle.tt_instance.specs.Cells.{all_courses}
use Rattle.tt_instance.specs.Courses.{lectures, students, no_course}

-- the numbers of a course are within the limits
abbrev pub IsFewCourse : Course → Type 0
IsFewCourse c = (c.lectures ≤ 4096) × (c.min_days ≤ 512) × (c.students ≤ 1000000)

-- the numbers of each course are within the limits
pub each_few : (p : Problem) → IsWithinLimits p → All IsFewCourse p.courses
each_few p within = λ c d h.
    let is = within.each_course c d h in
    (omega (arith, get_or-le-sum_by (λ (k : Course). k.lectures) p.courses c d h, within.lectures), is.0, is.1)

-- a course has at most 1,000,000 students
pub few_students : (p : Problem) → IsInstance p → (c : ℕ) → c < length p.courses → students p c ≤ 1000000
few_students p ok c h = (ok.within.each_course c no_course h).1

up_to : (f : Course → ℕ) (xs : List Course) (d : Course) (i : ℕ) → i ≤ length xs → sum_by (λ k. f (get_or xs k d)) (range_below i)
    ≡ sum_by f (take i xs)
up_to f xs d zero h = refl
up_to f xs d (suc i) h =
    let e : suc i ≡ i + 1 = omega arith in
    subst (λ n. sum_by (λ k. f (get_or xs k d)) (range_below n) ≡ sum_by f (take n xs)) (sym e)
    (omega (arith, sum_more (λ k. f (get_or xs k d)) i, sum_by_more f xs i d (omega arith), up_to f xs d i (omega arith)))

by_number : (f : Course → ℕ) (xs : List Course) (d : Course) → sum_by (λ k. f (get_or xs k d)) (range_below (length xs)) ≡ sum_by f xs
by_number f xs d = up_to f xs d (length xs) (omega arith) ∙ ap (sum_by f) (take_all (length xs) xs (omega arith))

-- all courses together have at most 4,096 lectures
pub few_lectures : (p : Problem) → IsInstance p → sum_by (lectures p) (all_courses p) ≤ 4096
few_lectures p ok = omega (arith, ok.within.lectures, by_number (λ c. c.lectures) p.courses no_course)

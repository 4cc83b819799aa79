-- The places of a week with one free place between two days: they are adjacent exactly if the periods are.
use Rattle.std.proofs.Common.{◌≡◌, ℕ, ◌+◌, ◌-◌, ◌*◌, ◌<◌, ◌≤◌, Bool, true, false, not, ◌&&◌, ◌||◌, List, length, slice_index_or, refl, sym, ap, ◌∙◌, arith, mul-le-mul_left}
use Rattle.std.specs.Prelude.{◌==◌, All, sum_by, count_by}
use Rattle.std.specs.List.{list_any}
use Rattle.tt_instance.specs.Problem.{Problem}
use Rattle.tt_instance.specs.Cells.{InRange, slot_of, next_to, is_of}
use Rattle.tt_instance.specs.Courses.{in_curriculum, members, no_curriculum}
use Rattle.tt_instance.specs.Limits.{IsInstance}
use Rattle.tt_instance.proofs.Limits.{members_below}
use Rattle.tt_instance.specs.declared.cell.Cell.{Cell}
use Rattle.tt_table.specs.Table.{IsTimetable}
use Rattle.tt_rules.specs.Inner.Places.{place_of, is_alone}
use Rattle.tt_rules.proofs.Courses.{any_of_courses, count_of_courses}
use Rattle.tt_rules.specs.Soft.{is_isolated}
use Rattle.tt_list_laws.proofs.Tests.{list_any-same_at, list_any-or, same_test}
use Rattle.tt_list_laws.proofs.Counting.{count_by-same_at}
use Rattle.tt_table.proofs.Numbering.{same_number, number_below_week}

-- a place is below 2048
pub place_below : (day period days periods : ℕ) → day < days → period < periods → days * periods ≤ 512
    → day * (periods + 1) + period + 1 < 2048
place_below day period days periods h k week =
    let a : day * (periods + 1) + (period + 1) < days * (periods + 1) = number_below_week day (period + 1) days (periods + 1) h
    (omega arith) in
    let b : days * 1 ≤ days * periods = mul-le-mul_left days (omega arith) in
    omega arith

-- day and period of two entries, and the number of periods of a day
module _ (a b d s w : ℕ) where
  -- the first place is one after the second exactly if the first period immediately follows the second
  pub right_after : b < w → s < w → (a * (w + 1) + b + 1 == d * (w + 1) + s + 1 + 1) ≡ ((a == d) && (b == s + 1))
  right_after h k =
      same_test (a * (w + 1) + b + 1) (d * (w + 1) + s + 1 + 1) (a * (w + 1) + b) (d * (w + 1) + (s + 1)) (λ e. omega arith)
      (λ e. omega arith)
      ∙ same_number a b d (s + 1) (w + 1) (omega arith) (omega arith)

  -- the first place is one before the second exactly if the first period immediately precedes the second
  pub right_before : b < w → s < w → (a * (w + 1) + b + 1 == d * (w + 1) + s + 1 - 1) ≡ ((a == d) && (b + 1 == s))
  right_before h k =
      same_test (a * (w + 1) + b + 1) (d * (w + 1) + s + 1 - 1) (a * (w + 1) + (b + 1)) (d * (w + 1) + s) (λ e. omega arith)
      (λ e. omega arith)
      ∙ same_number a (b + 1) d s (w + 1) (omega arith) (omega arith)

-- if the places of a curriculum's entries are marked, an entry is alone exactly if it is isolated
pub alone_is : (p : Problem) (t : List Cell) (q : ℕ) (taught : List Bool) (e : Cell) → IsTimetable p t → InRange p e
    → ((k : ℕ) → slice_index_or taught k false ≡ list_any (λ x. in_curriculum p q x.course && (place_of p x == k)) t)
    → is_alone p taught e ≡ is_isolated p t q e
alone_is p t q taught e ok h marked =
    let own : Cell → Bool = λ x. in_curriculum p q x.course in
    let after : Cell → Bool = λ x. own x && (place_of p x == place_of p e + 1) in
    let before : Cell → Bool = λ x. own x && (place_of p x == place_of p e - 1) in
    ap (λ b. not (b || slice_index_or taught (place_of p e - 1) false)) (marked (place_of p e + 1))
    ∙ ap (λ b. not (list_any after t || b)) (marked (place_of p e - 1))
    ∙ ap not (sym (list_any-or after before t))
    ∙ ap not (list_any-same_at (InRange p) (λ x. after x || before x) (λ x. own x && next_to (slot_of x) (slot_of e)) t ok
    (λ x k.
    ap (λ b. (own x && b) || before x) (right_after x.day x.period e.day e.period p.periods k.period h.period)
    ∙ ap (λ b. (own x && ((x.day == e.day) && (x.period == e.period + 1))) || (own x && b))
    (right_before x.day x.period e.day e.period p.periods k.period h.period)
    ∙ by_tests (own x) (x.day == e.day) (x.period == e.period + 1) (x.period + 1 == e.period)))
  where
    by_tests : (o d a b : Bool) → ((o && (d && a)) || (o && (d && b))) ≡ (o && (d && (a || b)))
    by_tests true true a b = refl
    by_tests true false a b = refl
    by_tests false d a b = refl

-- the entries of a curriculum's members that are alone are its isolated ones
pub isolated_counted : (p : Problem) (t : List Cell) (q : ℕ) (taught : List Bool) (total : ℕ) → IsInstance p → q < length p.curricula
    → IsTimetable p t
    → ((k : ℕ) → slice_index_or taught k false ≡ list_any (λ c. list_any (λ e. is_of c e && (place_of p e == k)) t) (members p q))
    → total ≡ sum_by (λ c. count_by (λ e. is_of c e && is_alone p taught e) t) (members p q)
    → total ≡ count_by (λ e. in_curriculum p q e.course && is_isolated p t q e) t
isolated_counted p t q taught total ok h within marked summed =
    summed
    ∙ count_of_courses (is_alone p taught) t (members p q) (ok.members_once q no_curriculum h)
    ∙ count_by-same_at (InRange p) (λ e. in_curriculum p q e.course && is_alone p taught e)
    (λ e. in_curriculum p q e.course && is_isolated p t q e) t within
    (λ e k. ap (λ b. in_curriculum p q e.course && b)
    (alone_is p t q taught e within k (λ n. marked n ∙ any_of_courses (λ x. place_of p x == n) t (members p q))))

-- the members of a curriculum are numbers below 2048
pub members_few : (p : Problem) (q : ℕ) → IsInstance p → q < length p.curricula → All (λ c. c < 2048) (members p q)
members_few p q ok h i d k = let below = members_below p q ok h i d k in omega (arith, below, ok.within.courses)

-- A pattern excludes a cell exactly if each cell that it matches is lost, one number at a time.
use Rattle.std.proofs.Common.{◌≡◌, ℕ, Bool, true, false, not, ◌&&◌, ◌||◌, List, length, ◌≤◌, refl, sym, ap, ◌∙◌}
use Rattle.std.specs.Prelude.{◌==◌}
use Rattle.std.specs.List.{list_all}
use Rattle.std.proofs.Math.Bool.{and-true, or-false}
use Rattle.std.proofs.lemmas.List.{get_or_past}
use Rattle.tt_list_laws.specs.Words.{range_below, has_number}
use Rattle.tt_list_laws.proofs.All.{list_all-same}
use Rattle.tt_list_laws.proofs.Tests.{same_test}
use Rattle.tt_instance.specs.Problem.{Problem}
use Rattle.tt_instance.specs.Cells.{slot, cell, all_cells, all_courses, all_rooms, all_days}
use Rattle.tt_instance.specs.Courses.{no_curriculum, members}
use Rattle.tt_instance.specs.declared.cell.Cell.{Cell}
use Rattle.tt_instance.proofs.Places.{cells_nested}
use Rattle.tt_path.specs.Facts.{agrees, is_who, matches}
use Rattle.tt_path.specs.Live.{clash, is_barred, excludes}
use Rattle.tt_path.specs.Inner.Nested.{courses_of, is_lost, is_day_lost, is_room_lost, are_rooms_lost, is_course_lost}
use Rattle.tt_path.specs.declared.facts.Who.{Who}
use Rattle.tt_path.specs.declared.facts.Who.TheVariants.{Course, Curriculum}
use Rattle.tt_path.specs.declared.facts.Pattern.{Pattern}
use Rattle.tt_path.specs.declared.facts.Fact.{Fact}
use Rattle.tt_path.proofs.Given.{all_that_agree, list_all-of_members}

or-turn : (a b c : Bool) → (a || b || c) ≡ (a || (c || b))
or-turn true b c = refl
or-turn false true true = refl
or-turn false true false = refl
or-turn false false true = refl
or-turn false false false = refl

-- a pattern means a course exactly if the course is one of those listed for it
pub is_who-has : (p : Problem) (who : Who) (c : ℕ) → is_who p who c ≡ has_number (courses_of p who) c
is_who-has p (Course a) c = same_test c a a c sym sym ∙ sym (or-false (a == c))
is_who-has p (Curriculum q) c = refl

module _ (p : Problem) (path : List Fact) (g : Pattern) (x : Cell) where
  in_room : (rest : Bool) (c r : ℕ)
      → list_all (λ d. list_all (λ s. not (rest && agrees g.day d && agrees g.period s) || is_lost p path x (cell c r (slot d s)))
      (range_below p.periods)) (all_days p) ≡ (not rest || is_room_lost p path g x c r)
  in_room rest c r =
      list_all-same (λ d. list_all (λ s. not (rest && agrees g.day d && agrees g.period s) || is_lost p path x (cell c r (slot d s)))
      (range_below p.periods)) (λ d. not (rest && agrees g.day d) || is_day_lost p path g x c r d) (all_days p)
      (λ d. all_that_agree (rest && agrees g.day d) (agrees g.period) (λ s. is_lost p path x (cell c r (slot d s))) (range_below p.periods))
      ∙ all_that_agree rest (agrees g.day) (is_day_lost p path g x c r) (all_days p)

  of_course : (c : ℕ)
      → list_all (λ r. list_all (λ d. list_all (λ s. not (matches p g (cell c r (slot d s))) || is_lost p path x (cell c r (slot d s)))
      (range_below p.periods)) (all_days p)) (all_rooms p) ≡ (not (is_who p g.who c) || are_rooms_lost p path g x c)
  of_course c =
      list_all-same
      (λ r. list_all (λ d. list_all (λ s. not (matches p g (cell c r (slot d s))) || is_lost p path x (cell c r (slot d s)))
      (range_below p.periods)) (all_days p)) (λ r. not (is_who p g.who c && agrees g.room r) || is_room_lost p path g x c r)
      (all_rooms p)
      (λ r. in_room (is_who p g.who c && agrees g.room r) c r)
      ∙ all_that_agree (is_who p g.who c) (agrees g.room) (is_room_lost p path g x c) (all_rooms p)

  pub excludes-by_course : excludes p path g x ≡ list_all (is_course_lost p path g x) (courses_of p g.who)
  excludes-by_course =
      list_all-same (λ y. not (matches p g y) || is_barred p path y || clash p y x) (λ y. not (matches p g y) || is_lost p path x y)
      (all_cells p) (λ y. or-turn (not (matches p g y)) (is_barred p path y) (clash p y x))
      ∙ cells_nested p (λ y. not (matches p g y) || is_lost p path x y)
      ∙ list_all-same
      (λ c. list_all
      (λ r. list_all (λ d. list_all (λ s. not (matches p g (cell c r (slot d s))) || is_lost p path x (cell c r (slot d s)))
      (range_below p.periods)) (all_days p)) (all_rooms p))
      (λ c. not (has_number (courses_of p g.who) c) || are_rooms_lost p path g x c) (all_courses p)
      (λ c. of_course c ∙ ap (λ b. not b || are_rooms_lost p path g x c) (is_who-has p g.who c))
      ∙ list_all-of_members (are_rooms_lost p path g x) (length p.courses) (courses_of p g.who)

  -- the form in which the code goes through the courses that the pattern means
  pub excludes-by_one : (a : ℕ) → g.who ≡ Course a → excludes p path g x ≡ is_course_lost p path g x a
  excludes-by_one a e = excludes-by_course ∙ ap (λ w. list_all (is_course_lost p path g x) (courses_of p w)) e
      ∙ and-true (is_course_lost p path g x a)

  pub excludes-by_members : (q : ℕ) → g.who ≡ Curriculum q → excludes p path g x ≡ list_all (is_course_lost p path g x) (members p q)
  excludes-by_members q e = excludes-by_course ∙ ap (λ w. list_all (is_course_lost p path g x) (courses_of p w)) e

  pub excludes-by_nobody : (q : ℕ) → g.who ≡ Curriculum q → length p.curricula ≤ q → excludes p path g x ≡ true
  excludes-by_nobody q e h =
      excludes-by_members q e ∙ ap (λ c. list_all (is_course_lost p path g x) c.members) (get_or_past p.curricula q no_curriculum h)

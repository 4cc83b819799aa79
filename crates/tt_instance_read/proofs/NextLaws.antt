-- Courses, rooms and curricula as a reader takes them, in turn: each satisfies its condition, given those before it, exactly if all are
-- within the limits.
use Rattle.std.proofs.Common.{◌≡◌, ◌≢◌, ℕ, ◌+◌, ◌≤◌, false, List, [], ◌∷◌, ◌++◌, arith}
use Rattle.std.specs.Prelude.{All, AllPairs}
use Rattle.std.proofs.lemmas.List.Sums.{sum_by-append, sum_by-cons, sum_by_more_le}
use Rattle.tt_text.specs.Texts.{has_name}
use Rattle.tt_instance.specs.declared.limit.TheConstants.{MAX_LECTURES, MAX_SEATS}
use Rattle.tt_instance.specs.Problem.{Course, Room, Curriculum}
use Rattle.tt_instance.specs.Columns.{ids_of, room_ids_of, curriculum_ids_of, lectures_of}
use Rattle.tt_instance.proofs.Each.{IsCourse, IsCurriculum}
use Rattle.tt_instance.proofs.AfterLaws.{EachAfter, EachAfter-from_at, All-from_each_after}
use Rattle.tt_instance.proofs.FreshLaws.{is_new, apart_from_new}

-- ---- courses

-- a course has a new name, and together with the courses before it at most 4,096 lectures
pub record IsNextCourse (before : List Course) (c : Course) : Type 0 where
  pub fresh : has_name (ids_of before) c.id ≡ false
  pub lectures : lectures_of before + c.lectures ≤ MAX_LECTURES
  pub is : IsCourse c

-- the limits on courses
pub record AreCourses (cs : List Course) : Type 0 where
  pub names : AllPairs (λ c d. c.id ≢ d.id) cs
  pub lectures : lectures_of cs ≤ MAX_LECTURES
  pub each : All IsCourse cs

pub courses_next : (cs : List Course) → AreCourses cs → EachAfter IsNextCourse [] cs
courses_next cs are = EachAfter-from_at IsNextCourse [] cs (λ i d l. record {
  fresh = is_new (λ (c : Course). c.id) d cs are.names i l;
  lectures = omega (arith, sum_by_more_le (λ (c : Course). c.lectures) cs i d l, are.lectures);
  is = are.each i d l;
})

-- the lectures of all courses, if those before have at most 4,096 lectures
lectures_after : (before cs : List Course) → EachAfter IsNextCourse before cs → lectures_of before ≤ 4096
    → lectures_of before + lectures_of cs ≤ 4096
lectures_after before [] next at_most = omega (arith, at_most)
lectures_after before (c ∷ cs) next at_most =
    let pushed = sum_by-append (λ (c : Course). c.lectures) before (c ∷ []) in
    let one = sum_by-cons (λ (c : Course). c.lectures) c [] in
    let all = sum_by-cons (λ (c : Course). c.lectures) c cs in
    let still : lectures_of (before ++ c ∷ []) ≤ 4096 = omega (arith, next.0.lectures) in
    omega (arith, lectures_after (before ++ c ∷ []) cs next.1 still)

pub courses_are : (cs : List Course) → EachAfter IsNextCourse [] cs → AreCourses cs
courses_are cs next = record {
  names = apart_from_new (λ (c : Course). c.id) IsNextCourse (λ before c next. next.fresh) cs next;
  lectures = omega (arith, lectures_after [] cs next (omega arith));
  each = All-from_each_after IsNextCourse IsCourse (λ before c next. next.is) [] cs next;
}

-- ---- rooms

-- a room has a new name
pub record IsNextRoom (before : List Room) (r : Room) : Type 0 where
  pub fresh : has_name (room_ids_of before) r.id ≡ false
  pub capacity : r.capacity ≤ MAX_SEATS

-- the limits on rooms
pub record AreRooms (rs : List Room) : Type 0 where
  pub names : AllPairs (λ r s. r.id ≢ s.id) rs
  pub each : All (λ r. r.capacity ≤ MAX_SEATS) rs

pub rooms_next : (rs : List Room) → AreRooms rs → EachAfter IsNextRoom [] rs
rooms_next rs are = EachAfter-from_at IsNextRoom [] rs
    (λ i d l. record { fresh = is_new (λ (r : Room). r.id) d rs are.names i l; capacity = are.each i d l })

pub rooms_are : (rs : List Room) → EachAfter IsNextRoom [] rs → AreRooms rs
rooms_are rs next = record {
  names = apart_from_new (λ (r : Room). r.id) IsNextRoom (λ before r next. next.fresh) rs next;
  each = All-from_each_after IsNextRoom (λ r. r.capacity ≤ MAX_SEATS) (λ before r next. next.capacity) [] rs next;
}

-- ---- curricula

-- a curriculum has a new name; `courses` is the number of all courses
pub record IsNextCurriculum (courses : ℕ) (before : List Curriculum) (q : Curriculum) : Type 0 where
  pub fresh : has_name (curriculum_ids_of before) q.id ≡ false
  pub is : IsCurriculum courses q

-- the limits on curricula
pub record AreCurricula (courses : ℕ) (qs : List Curriculum) : Type 0 where
  pub names : AllPairs (λ q r. q.id ≢ r.id) qs
  pub each : All (IsCurriculum courses) qs

pub curricula_next : (courses : ℕ) (qs : List Curriculum) → AreCurricula courses qs → EachAfter (IsNextCurriculum courses) [] qs
curricula_next courses qs are = EachAfter-from_at (IsNextCurriculum courses) [] qs
    (λ i d l. record { fresh = is_new (λ (q : Curriculum). q.id) d qs are.names i l; is = are.each i d l })

pub curricula_are : (courses : ℕ) (qs : List Curriculum) → EachAfter (IsNextCurriculum courses) [] qs → AreCurricula courses qs
curricula_are courses qs next = record {
  names = apart_from_new (λ (q : Curriculum). q.id) (IsNextCurriculum courses) (λ before q next. next.fresh) qs next;
  each = All-from_each_after (IsNextCurriculum courses) (IsCurriculum courses) (λ before q next. next.is) [] qs next;
}

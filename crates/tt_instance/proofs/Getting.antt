-- A field of a row is that field of the value that a contract sees.
use Rattle.std.proofs.Common.{◌≡◌, ℕ, ◌≤◌, ◌<◌, List, length, get_or, map, Some, slice_get, refl, sym, ap, subst, ◌∙◌, arith}
use Rattle.std.specs.Prelude.{All}
use Rattle.std.specs.Option.{option_map}
use Rattle.std.proofs.lemmas.List.{get_or-map, length-map}
use Rattle.std.proofs.lemmas.List.Elements.{All-get_or}
use Rattle.std.proofs.lemmas.Option.{slice_get-map, slice_get_read}
use Rattle.tt_text.specs.Texts.{index_of_name}
use Rattle.tt_instance.specs.declared.rows.CourseRow.{CourseRow}
use Rattle.tt_instance.specs.declared.rows.CourseList.{CourseList}
use Rattle.tt_instance.specs.declared.rows.RoomRow.{RoomRow}
use Rattle.tt_instance.specs.declared.rows.CurriculumRow.{CurriculumRow}
use Rattle.tt_instance.specs.declared.parts.Parts.{Parts}
use Rattle.tt_instance.specs.Problem.{Course, Problem}
use Rattle.tt_instance.specs.Courses.{no_course, teachers}
use Rattle.tt_instance.specs.Limits.{IsInstance}
use Rattle.tt_instance.specs.Seen.{course_seen, courses_seen, room_seen, curriculum_seen, problem_seen}
use Rattle.tt_instance.specs.Inner.Indexed.{IsIndexed, IsTeacher, teachers_of}
use Rattle.tt_instance.proofs.Each.{IsCurriculum}
use Rattle.tt_instance.proofs.CourseLimits.{IsFewCourse, each_few}

module _ {X Y : Type 0} (f : X → Y) (xs : List X) (i : ℕ) (x : X) where
  -- a field of the value seen of a row
  pub field_at : {Z : Type 0} (g : Y → Z) → i < length xs → x ≡ get_or xs i x → slice_get (map g (map f xs)) i ≡ Some (g (f x))
  field_at g lt is = slice_get-map g (map f xs) i
      ∙ ap (option_map g) (slice_get-map f xs i ∙ ap (option_map f) (slice_get_read xs (length xs) i x refl lt is))

  -- the value seen of a row
  row_at : (d : Y) → i < length xs → x ≡ get_or xs i x → get_or (map f xs) i d ≡ f x
  row_at d lt is = get_or-map f xs i x d lt ∙ ap f (sym is)

  -- a property of each value seen holds of the one at a place
  holds_at : (Q : Y → Type 0) → All Q (map f xs) → i < length xs → x ≡ get_or xs i x → Q (f x)
  holds_at Q all lt is =
      let within : i < length (map f xs) = omega (arith, length-map xs f) in
      subst Q (row_at (f x) lt is) (All-get_or Q (map f xs) i (f x) within all)

  -- a place of the list seen has a row
  within_rows : (ys : List Y) → map f xs ≡ ys → i < length ys → i < length xs
  within_rows ys are lt = omega (arith, length-map xs f, ap length are)

  -- the field, if the list seen has another name
  pub field_seen : {Z : Type 0} (g : Y → Z) (ys : List Y) → map f xs ≡ ys → i < length ys → x ≡ get_or xs i x
      → slice_get (map g ys) i ≡ Some (g (f x))
  field_seen g ys are lt is = subst (λ (zs : List Y). slice_get (map g zs) i ≡ Some (g (f x))) are (field_at g (within_rows ys are lt) is)

module _ (a : Parts) (p : Problem) (is_seen : problem_seen a ≡ p) (instance : IsInstance (problem_seen a)) where
  -- the numbers of a course are within the limits
  pub course_within : (i : ℕ) (x : CourseRow) → i < length p.courses → x ≡ get_or a.courses.rows.items i x → (x.lectures ≤ 4096)
      × (x.min_days ≤ 512) × (x.students ≤ 1000000)
  course_within i x lt is =
      let are : courses_seen a.courses.rows.items ≡ p.courses = ap (λ (q : Problem). q.courses) is_seen in
      holds_at course_seen a.courses.rows.items i x IsFewCourse (each_few (problem_seen a) instance.within)
      (within_rows course_seen a.courses.rows.items i x p.courses are lt) is

  -- the seats of a room are within the limit
  pub room_within : (i : ℕ) (x : RoomRow) → i < length p.rooms → x ≡ get_or a.rooms.items i x → x.capacity ≤ 1000000
  room_within i x lt is =
      let are : map room_seen a.rooms.items ≡ p.rooms = ap (λ (q : Problem). q.rooms) is_seen in
      holds_at room_seen a.rooms.items i x (λ r. r.capacity ≤ 1000000) instance.within.each_room
      (within_rows room_seen a.rooms.items i x p.rooms are lt) is

  -- the members of a curriculum are within the limit
  pub curriculum_within : (i : ℕ) (x : CurriculumRow) → i < length p.curricula → x ≡ get_or a.curricula.items i x
      → length x.members.courses.items ≤ 4096
  curriculum_within i x lt is =
      let are : map curriculum_seen a.curricula.items ≡ p.curricula = ap (λ (q : Problem). q.curricula) is_seen in
      let kept = holds_at curriculum_seen a.curricula.items i x (IsCurriculum (length (courses_seen a.courses.rows.items)))
      instance.within.each_curriculum (within_rows curriculum_seen a.curricula.items i x p.curricula are lt) is in
      kept.0

-- the number that a row has for its teacher
pub teacher_seen : (l : CourseList) (p : Problem) (i : ℕ) (x : CourseRow) → IsIndexed l → courses_seen l.rows.items ≡ p.courses
    → i < length p.courses → x ≡ get_or l.rows.items i x
    → index_of_name (teachers p) (get_or p.courses i no_course).teacher ≡ Some x.teacher
teacher_seen l p i x indexed are lt is =
    let rows : List CourseRow = l.rows.items in
    let in_rows : i < length rows = within_rows course_seen rows i x p.courses are lt in
    let number : IsTeacher l.teachers x = subst (IsTeacher l.teachers) (sym is)
    (All-get_or (IsTeacher l.teachers) rows i x in_rows indexed.numbers) in
    let same : index_of_name (teachers_of (courses_seen rows)) (get_or (courses_seen rows) i no_course).teacher
    ≡ index_of_name l.teachers x.teacher_name.now =
    rw (row_at course_seen rows i x no_course in_rows is, ← indexed.teachers_are) refl in
    subst (λ (cs : List Course). index_of_name (teachers_of cs) (get_or cs i no_course).teacher ≡ Some x.teacher) are (same ∙ number)

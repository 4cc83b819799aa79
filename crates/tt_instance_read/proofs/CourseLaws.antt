-- Courses: those that are read are spelled, and those that are spelled are read.
use Rattle.std.proofs.Common.{◌≡◌, ℕ, ◌-◌, ◌≤◌, false, List, [], ◌∷◌, ◌++◌, length, Ok, refl, ap, subst, ◌∙◌, arith}
use Rattle.std.specs.List.{flat_map}
use Rattle.std.proofs.lemmas.List.Sums.{sum_by_push}
use Rattle.tt_text.specs.Tokens.{Placed}
use Rattle.tt_text.specs.Texts.{has_name}
use Rattle.tt_text.specs.Pieces.{Piece, Text, Number, Begins}
use Rattle.tt_text.proofs.Steps.{done, ok_is, bind_ok, Takes, takes_then}
use Rattle.tt_text.proofs.Fields.{ReadsOn, has_piece}
use Rattle.tt_instance_read.specs.declared.fault.InstanceFault.TheVariants as fault
use Rattle.tt_instance.specs.Problem.{Course}
use Rattle.tt_instance.specs.Columns.{ids_of, lectures_of}
use Rattle.tt_instance_read.specs.Reading.{token_at, limited_at, course_at, courses_at}
use Rattle.tt_instance.specs.Spelling.{course_pieces}
use Rattle.tt_instance.proofs.AfterLaws.{EachAfter}
use Rattle.tt_instance_read.proofs.NextLaws.{IsNextCourse}
use Rattle.tt_instance_read.proofs.FieldLaws.{guard_passed, text_takes, limited_takes, limited_reads}
use Rattle.tt_instance_read.proofs.Repeating.{courses_repeat}
use Rattle.tt_instance_read.proofs.SeriesLaws.{OneTaken, ManyTaken, series_takes, series_reads}

-- the result of reading this many courses
abbrev pub CoursesTaken : ℕ → List Placed → List Course × List Placed → Type 0
CoursesTaken n ts x = ManyTaken (λ cs. cs) course_pieces IsNextCourse n [] ts x

-- one course that was read is spelled
course_takes : (end : ℕ) (before : List Course) (ts : List Placed) (x : List Course × List Placed) → lectures_of before ≤ 4096
    → course_at end before ts ≡ Ok x → OneTaken (λ cs. cs) course_pieces IsNextCourse before ts x
unfolding course_at
course_takes end before ts x fits e =
    let id = bind_ok (token_at end ts) _ x e in
    let g = guard_passed (has_name (ids_of before) id.0.0.text) (fault.Repeated id.0.0.at) _ x id.2 in
    let teacher = bind_ok (token_at end id.0.1) _ x g.1 in
    let lectures = bind_ok (limited_at end (4096 - lectures_of before) teacher.0.1) _ x teacher.2 in
    let min_days = bind_ok (limited_at end 512 lectures.0.1) _ x lectures.2 in
    let students = bind_ok (limited_at end 1000000 min_days.0.1) _ x min_days.2 in
    let l = limited_takes end (4096 - lectures_of before) teacher.0.1 lectures.0 lectures.1 in
    let m = limited_takes end 512 lectures.0.1 min_days.0 min_days.1 in
    let s = limited_takes end 1000000 min_days.0.1 students.0 students.1 in
    let c : Course = record {
      id = id.0.0.text;
      teacher = teacher.0.0.text;
      lectures = lectures.0.0;
      min_days = min_days.0.0;
      students = students.0.0;
    } in
    let pieces : Takes ts (course_pieces c) students.0.1 =
    takes_then _ _ _ _ _ (text_takes end ts id.0 id.1)
    (takes_then _ _ _ _ _ (text_takes end id.0.1 teacher.0 teacher.1) (takes_then _ _ _ _ _ l.0 (takes_then _ _ _ _ _ m.0 s.0))) in
    subst (OneTaken (λ cs. cs) course_pieces IsNextCourse before ts) (ok_is (before ++ c ∷ [], students.0.1) x students.2)
    (record { item = c; list = refl; next = record { fresh = g.0; lectures = omega (arith, l.1, fits); is = (m.1, s.1) }; takes = pieces })

-- one course that is spelled is read
course_reads : (end : ℕ) (before : List Course) (ts : List Placed) (c : Course) (qs : List Piece) (rest : List Placed)
    → IsNextCourse before c → Begins (course_pieces c ++ qs) ts rest
    → ReadsOn (course_at end before ts) (before ++ c ∷ []) qs rest
unfolding course_at
course_reads end before ts c qs rest next h =
    let q3 : List Piece = Number c.students ∷ qs in
    let q2 : List Piece = Number c.min_days ∷ q3 in
    let q1 : List Piece = Number c.lectures ∷ q2 in
    let room : c.lectures ≤ 4096 - lectures_of before = omega (arith, next.lectures) in
    let id = has_piece (fault.Ended end) ts (Text c.id) (Text c.teacher ∷ q1) rest h in
    let teacher = has_piece (fault.Ended end) id.token.1 (Text c.teacher) q1 rest id.left in
    let lectures = limited_reads end (4096 - lectures_of before) teacher.token.1 c.lectures q2 rest room teacher.left in
    let min_days = limited_reads end 512 lectures.mid c.min_days q3 rest next.is.0 lectures.left in
    let students = limited_reads end 1000000 min_days.mid c.students qs rest next.is.1 min_days.left in
    let fresh : has_name (ids_of before) id.token.0.text ≡ false = ap (has_name (ids_of before)) id.piece ∙ next.fresh in
    let made : done {A = List Course × List Placed} (
      before ++ record {
        id = id.token.0.text;
        teacher = teacher.token.0.text;
        lectures = c.lectures;
        min_days = c.min_days;
        students = c.students;
      } ∷ [],
      students.mid,
    ) ≡ Ok (before ++ c ∷ [], students.mid) = rw (id.piece, teacher.piece) refl in
    record { mid = students.mid; is = rw (id.is, fresh, teacher.is, lectures.is, min_days.is, students.is) made; left = students.left }

-- this many courses that were read are spelled
pub courses_take : (end n : ℕ) (ts : List Placed) (x : List Course × List Placed) → courses_at end n [] ts ≡ Ok x → CoursesTaken n ts x
courses_take end n ts x e =
    series_takes (λ cs. cs) course_pieces IsNextCourse (λ cs. lectures_of cs ≤ 4096) (course_at end) (courses_at end) (courses_repeat end)
    (course_takes end) (λ before c fits next. omega (arith, sum_by_push (λ (c : Course). c.lectures) before c, next.lectures)) n [] ts x
    (omega arith) e

-- courses that are spelled are read
pub courses_read : (end : ℕ) (ts : List Placed) (cs : List Course) (qs : List Piece) (rest : List Placed) → EachAfter IsNextCourse [] cs
    → Begins (flat_map course_pieces cs ++ qs) ts rest
    → ReadsOn (courses_at end (length cs) [] ts) cs qs rest
courses_read end ts cs qs rest each h = series_reads (λ l. l) course_pieces IsNextCourse (course_at end) (courses_at end)
    (courses_repeat end) (course_reads end) [] ts cs qs rest each h

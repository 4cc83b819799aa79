-- The rows of conflicts agree with the definition of a conflict.
use Rattle.std.proofs.Common.{◌≡◌, ℕ, ◌≤◌, ◌<◌, Bool, true, false, not, ◌&&◌, ◌||◌, eqb, List, [], length, get_or, map, Some, None, slice_get, refl, sym, ap, subst, ◌∙◌, inl, inr, arith}
use Rattle.std.specs.Prelude.{◌==◌, All}
use Rattle.std.specs.List.{list_any}
use Rattle.std.specs.Cmp.Lexicographic.{same_text}
use Rattle.std.proofs.lemmas.List.{get_or-map, get_or_past, length-map, get_or_default}
use Rattle.std.proofs.lemmas.List.Elements.{All-get_or, All-map}
use Rattle.std.proofs.lemmas.List.Quantifiers.{position-Some}
use Rattle.std.proofs.lemmas.Option.{slice_get_past, same_Some}
use Rattle.std.proofs.lemmas.Bool.{cases_lt, ne_eqb, eq-eqb, false≢true}
use Rattle.std.proofs.lemmas.Cmp.{nat_list_eq_equiv}
use Rattle.std.proofs.lemmas.Option.{slice_get_cases}
use Rattle.std.proofs.lemmas.List.Folds.{list_any_at}
use Rattle.tt_list_laws.specs.Words.{has_number}
use Rattle.tt_list_laws.proofs.Sums.{list_any-of_map}
use Rattle.tt_instance.specs.declared.rows.MemberList.{MemberList}
use Rattle.tt_text.specs.Texts.{is_text, is_same_text, index_of_name}
use Rattle.tt_instance.specs.declared.rows.CourseRow.{CourseRow}
use Rattle.tt_instance.specs.declared.rows.CurriculumRow.{CurriculumRow}
use Rattle.tt_instance.specs.declared.parts.Parts.{Parts}
use Rattle.tt_instance.specs.Problem.{Course}
use Rattle.tt_instance.specs.Courses.{one_teacher, one_curriculum, conflict}
use Rattle.tt_instance.specs.Seen.{course_seen, courses_seen, curriculum_seen, problem_seen}
use Rattle.tt_instance.specs.Inner.Indexed.{IsTeacher, IsMarked, IsIndexedParts, IsSquare, mark_at}
use Rattle.tt_instance.proofs.Getting.{field_at}

-- two teachers are the same if their numbers are
same_number : (names : List (List ℕ)) (s t : List ℕ) (i j : ℕ) (v : Bool) → is_text s t ≡ v → index_of_name names s ≡ Some i
    → index_of_name names t ≡ Some j → eqb j i ≡ v
same_number names s t i j true e at_s at_t =
    let same : s ≡ t = same_text s t (sym e) in
    eq-eqb j i (same_Some j i (sym at_t ∙ ap (index_of_name names) (sym same) ∙ at_s))
same_number names s t i j false e at_s at_t = ne_eqb j i (λ one.
    let p = position-Some (is_text s) names i [] at_s in
    let q = position-Some (is_text t) names j [] at_t in
    let s_is : s ≡ get_or names i [] = same_text s (get_or names i []) (sym p.1) in
    let t_is : t ≡ get_or names j [] = same_text t (get_or names j []) (sym q.1) in
    let same : s ≡ t = s_is ∙ ap (λ (k : ℕ). get_or names k []) (sym one) ∙ sym t_is in
    false≢true (sym e ∙ ap (λ (x : List ℕ). is_text x t) same ∙ nat_list_eq_equiv.refl t))

abbrev teacher_of : Course → List ℕ
teacher_of c = c.teacher

-- for each course, whether it has this teacher
abbrev flags_of : List CourseRow → ℕ → List Bool
flags_of rows teacher = map (λ r. eqb r.teacher teacher) rows

-- whether both courses have the same teacher, by name
abbrev one_name : List CourseRow → ℕ → ℕ → Bool
one_name rows a b = is_same_text (slice_get (map teacher_of (courses_seen rows)) a) (slice_get (map teacher_of (courses_seen rows)) b)

-- the flag of a course in the row of a teacher
teacher_reported : (names : List (List ℕ)) (rows : List CourseRow) (a b : ℕ) (x : CourseRow) → All (IsTeacher names) rows
    → a < length rows → x ≡ get_or rows a x
    → get_or (flags_of rows x.teacher) b false ≡ one_name rows a b
teacher_reported names rows a b x all in_a x_is = elim (cases_lt b (length rows)) [ inl lt ↦ here lt | inr le ↦ past le ]
  where
    at_a : slice_get (map teacher_of (courses_seen rows)) a ≡ Some x.teacher_name.now
    at_a = field_at course_seen rows a x teacher_of in_a x_is

    here : b < length rows → get_or (flags_of rows x.teacher) b false ≡ one_name rows a b
    here lt =
        let y : CourseRow = get_or rows b x in
        let at_b : slice_get (map teacher_of (courses_seen rows)) b ≡ Some y.teacher_name.now =
        field_at course_seen rows b y teacher_of lt (get_or_default rows b x y lt) in
        let of_x : IsTeacher names x = subst (IsTeacher names) (sym x_is) (All-get_or (IsTeacher names) rows a x in_a all) in
        let of_y : IsTeacher names y = All-get_or (IsTeacher names) rows b x lt all in
        rw (at_a, at_b) (get_or-map (λ (r : CourseRow). eqb r.teacher x.teacher) rows b x false lt
        ∙ same_number names x.teacher_name.now y.teacher_name.now x.teacher y.teacher
        (is_text x.teacher_name.now y.teacher_name.now) refl of_x of_y)

    past : length rows ≤ b → get_or (flags_of rows x.teacher) b false ≡ one_name rows a b
    past le =
        let at_b : slice_get (map teacher_of (courses_seen rows)) b ≡ None = slice_get_past _ b (simp length-map le) in
        rw (at_a, at_b) (get_or_past _ b false (simp length-map le))

module _ (count : ℕ) where
  -- the members of a curriculum are courses
  members_within : (l : MemberList) → IsMarked count l → All (λ c. c < count) l.courses.items
  members_within l marked k d h = elim (cases_lt (get_or l.courses.items k d) count) [
    | inl lt ↦ lt
    | inr le ↦
        let c = get_or l.courses.items k d in
        let there : has_number l.courses.items c ≡ true = list_any_at (λ m. m == c) l.courses.items k d h (eq-eqb c c refl) in
        let none : get_or l.marks c false ≡ false = get_or_past l.marks c false (omega (arith, marked.len, le)) in
        absurd (false≢true (sym none ∙ marked.agrees c ∙ there))
  ]

  -- the members of each curriculum are courses
  pub all_within : (rows : List CurriculumRow) → All (λ r. IsMarked count r.members) rows
      → All (λ q. All (λ c. c < count) q.members.courses.items) rows
  all_within rows all k d h = members_within (get_or rows k d).members (all k d h)

-- for each course, the courses that have its teacher
abbrev teacher_rows_of : List CourseRow → List (List Bool)
teacher_rows_of rows = map (λ x. flags_of rows x.teacher) rows

-- the length of each row is the number of rows
pub teacher_rows_square : (rows : List CourseRow) → IsSquare (teacher_rows_of rows)
teacher_rows_square rows = All-map (λ (row : List Bool). length row ≡ length (teacher_rows_of rows)) (λ x. flags_of rows x.teacher) rows
    (λ k d h.
    length-map rows (λ r. eqb r.teacher (get_or rows k d).teacher) ∙ sym (length-map rows (λ x. flags_of rows x.teacher)))

-- each course has a row
pub row_for_each : (p : Parts) (courses : List CourseRow) (first : List (List Bool)) → courses ≡ p.courses.rows.items
    → first ≡ teacher_rows_of courses
    → length first ≡ length (courses_seen p.courses.rows.items)
row_for_each p courses first courses_are first_is =
    ap length first_is ∙ length-map courses (λ x. flags_of courses x.teacher) ∙ ap length courses_are
    ∙ sym (length-map p.courses.rows.items course_seen)

-- each member has a row
pub members_have_rows : (p : Parts) (courses : List CourseRow) (curricula : List CurriculumRow) (first : List (List Bool))
    → IsIndexedParts p
    → courses ≡ p.courses.rows.items → curricula ≡ p.curricula.items → first ≡ teacher_rows_of courses
    → All (λ q. All (λ c. c < length first) q.members.courses.items) curricula
members_have_rows p courses curricula first is courses_are curricula_are first_is =
    let size : length p.courses.rows.items ≡ length first =
    sym (ap length courses_are) ∙ sym (length-map courses (λ x. flags_of courses x.teacher)) ∙ sym (ap length first_is) in
    subst (All (λ (q : CurriculumRow). All (λ c. c < length first) q.members.courses.items)) (sym curricula_are)
    (subst (λ n. All (λ (q : CurriculumRow). All (λ c. c < n) q.members.courses.items) p.curricula.items) size
    (all_within (length p.courses.rows.items) p.curricula.items is.curricula))

-- the marks of these rows are the courses with the same teacher
teacher_at : (p : Parts) (a b : ℕ) → IsIndexedParts p → mark_at (teacher_rows_of p.courses.rows.items) a b ≡ one_teacher
    (problem_seen p) a b
teacher_at p a b is = elim (slice_get_cases p.courses.rows.items a).1 [
  | inl here ↦
      let rows = p.courses.rows.items in
      let x = here.0 in
      ap (λ (row : List Bool). get_or row b false) (get_or-map (λ y. flags_of rows y.teacher) rows a x [] here.1)
      ∙ ap (λ (y : CourseRow). get_or (flags_of rows y.teacher) b false) here.3
      ∙ teacher_reported p.courses.teachers rows a b x is.courses.numbers here.1 (sym here.3)
  | inr past ↦
      let rows = p.courses.rows.items in
      let none : slice_get (map teacher_of (courses_seen rows)) a ≡ None = slice_get_past _ a (simp length-map past.0) in
      ap (λ (row : List Bool). get_or row b false) (get_or_past (teacher_rows_of rows) a [] (simp length-map past.0)) ∙ rw none refl
]

-- the rows of conflicts: those of teachers, with the members of curricula added, and each course's own mark cleared
pub rows_reported : (p : Parts) (courses : List CourseRow) (curricula : List CurriculumRow) (first added cleared : List (List Bool))
    → IsIndexedParts p
    → courses ≡ p.courses.rows.items → curricula ≡ p.curricula.items
    → first ≡ teacher_rows_of courses
    → ((a b : ℕ) → mark_at added a b ≡
    (mark_at first a b || list_any (λ q. has_number q.members.courses.items a && has_number q.members.courses.items b) curricula))
    → ((a b : ℕ) → mark_at cleared a b ≡ (not (a == b) && mark_at added a b))
    → (a b : ℕ) → mark_at cleared a b ≡ conflict (problem_seen p) a b
rows_reported p courses curricula first added cleared is courses_are curricula_are first_is more less a b =
    let both : CurriculumRow → Bool = λ q. has_number q.members.courses.items a && has_number q.members.courses.items b in
    let teacher : mark_at first a b ≡ one_teacher (problem_seen p) a b =
    ap (λ rows. mark_at rows a b) (first_is ∙ ap teacher_rows_of courses_are) ∙ teacher_at p a b is in
    let curriculum : list_any both curricula ≡ one_curriculum (problem_seen p) a b =
    ap (list_any both) curricula_are
    ∙ sym (list_any-of_map (λ q. has_number q.members a && has_number q.members b) curriculum_seen p.curricula.items) in
    less a b ∙ ap (λ x. not (a == b) && x) (more a b ∙ ap (λ x. x || list_any both curricula) teacher
    ∙ ap (λ x. one_teacher (problem_seen p) a b || x) curriculum)

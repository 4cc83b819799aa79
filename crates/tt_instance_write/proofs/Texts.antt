-- The text that the writers append, line by line.
use Rattle.std.proofs.Common.{◌≡◌, ℕ, ◌≤◌, ◌<◌, List, [], ◌∷◌, ◌++◌, length, get_or, map, take, refl, sym, ap, subst, ◌∙◌, append_assoc, map-id, arith}
use Rattle.std.specs.Prelude.{All}
use Rattle.std.specs.List.{flat_map}
use Rattle.std.specs.Fmt.{decimal}
use Rattle.std.proofs.lemmas.List.{append-nil, take_all, get_or-map, length-map}
use Rattle.std.proofs.lemmas.List.Elements.{All-weaker}
use Rattle.tt_text.specs.Pieces.{Piece, Text, Number}
use Rattle.tt_text.specs.Lines.{text_of, line_text, lines_text}
use Rattle.tt_text.proofs.Texts.{lines_text-append}
use Rattle.tt_instance_read.specs.declared.fault.Word.{Word}
use Rattle.tt_instance_read.specs.declared.fault.Word.TheVariants as word
use Rattle.tt_instance.specs.declared.rows.CourseRow.{CourseRow}
use Rattle.tt_instance.specs.declared.rows.CurriculumRow.{CurriculumRow}
use Rattle.tt_instance.specs.declared.rows.UnavailabilityRow.{UnavailabilityRow}
use Rattle.tt_instance.specs.declared.parts.Parts.{Parts}
use Rattle.tt_instance_read.specs.Words.{fixed}
use Rattle.tt_instance.specs.Problem.{Course, Room, Curriculum, Unavailability, Problem}
use Rattle.tt_instance.specs.Courses.{no_course}
use Rattle.tt_instance.specs.Limits.{IsInstance}
use Rattle.tt_instance.specs.Spelling.{named, course_pieces, room_pieces, curriculum_pieces, unavailability_pieces}
use Rattle.tt_instance_write.specs.Writing.{counted_line, section, header_lines, instance_text}
use Rattle.tt_instance.specs.Seen.{course_seen, courses_seen, curriculum_seen, curricula_seen, unavailability_seen, unavailabilities_seen, problem_seen}
use Rattle.tt_instance.proofs.Each.{IsCurriculum, IsUnavailability}

module _ {X Y : Type 0} (v : X → Y) where
  -- a line for each row
  rows_text : (f : Y → List Piece) (rows : List X) → lines_text (map f (map v rows)) ≡ flat_map (λ r. line_text (f (v r))) rows
  rows_text f [] = refl
  rows_text f (r ∷ rs) = ap (λ (t : List ℕ). line_text (f (v r)) ++ t) (rows_text f rs)

  -- a section whose rows are all written
  pub section_done : (w : Word) (f : Y → List Piece) (rows : List X) (i : ℕ) (old mid new : List ℕ) → mid ≡ old ++ lines_text (section w)
      → new ≡ mid ++ flat_map (λ r. line_text (f (v r))) (take i rows) → length rows ≤ i
      → new ≡ old ++ lines_text (section w ++ map f (map v rows))
  section_done w f rows i old mid new begun so_far le =
      let all : take i rows ≡ rows = take_all i rows le in
      let lines : flat_map (λ (r : X). line_text (f (v r))) (take i rows) ≡ lines_text (map f (map v rows)) =
      ap (flat_map (λ (r : X). line_text (f (v r)))) all ∙ sym (rows_text f rows) in
      so_far ∙ rw (begun, lines) (append_assoc old (lines_text (section w)) (lines_text (map f (map v rows)))
      ∙ ap (λ (t : List ℕ). old ++ t) (sym (lines_text-append (section w) (map f (map v rows)))))

  -- a line, field by field
  fields_text : (f : Y → Piece) (p : Piece) (xs : List X) → line_text (p ∷ map f (map v xs)) ≡ text_of p ++
      (flat_map (λ x. 32 ∷ text_of (f (v x))) xs ++ 10 ∷ [])
  fields_text f p [] = refl
  fields_text f p (x ∷ xs) =
      ap (λ (t : List ℕ). text_of p ++ 32 ∷ t) (fields_text f (f (v x)) xs
      ∙ sym (append_assoc (text_of (f (v x))) (flat_map (λ y. 32 ∷ text_of (f (v y))) xs) (10 ∷ [])))

  -- a line whose fields are all written
  pub line_done : (f : Y → Piece) (p : Piece) (xs : List X) (i : ℕ) (old mid new : List ℕ) → mid ≡ old ++ text_of p
      → new ≡ mid ++ flat_map (λ x. 32 ∷ text_of (f (v x))) (take i xs) → length xs ≤ i → new ++ 10 ∷ [] ≡ old ++ line_text
      (p ∷ map f (map v xs))
  line_done f p xs i old mid new begun so_far le =
      let fields : List ℕ = flat_map (λ x. 32 ∷ text_of (f (v x))) xs in
      let all : flat_map (λ x. 32 ∷ text_of (f (v x))) (take i xs) ≡ fields = ap (flat_map (λ (x : X). 32 ∷ text_of (f (v x))))
      (take_all i xs le) in
      let grouped : ((old ++ text_of p) ++ fields) ++ 10 ∷ [] ≡ old ++ (text_of p ++ (fields ++ 10 ∷ [])) = simp append_assoc in
      ap (λ (t : List ℕ). t ++ 10 ∷ []) (so_far ∙ rw (begun, all) refl) ∙ grouped ∙ ap (λ (t : List ℕ). old ++ t) (sym (fields_text f p xs))

  -- a property of each value seen holds of each row's value
  all_seen : (Q : Y → Type 0) (xs : List X) → All Q (map v xs) → All (λ x. Q (v x)) xs
  all_seen Q xs all = λ k d lt. subst Q (get_or-map v xs k d (v d) lt) (all k (v d) (omega (arith, lt, length-map xs v)))

-- the line of a curriculum whose members are all written
pub curriculum_done : (cs : List Course) (id members : List ℕ) (count i : ℕ) (old first mid new : List ℕ) → first ≡ old ++ id
    → mid ≡ first ++ 32 ∷ decimal count
    → new ≡ mid ++ flat_map (λ c. 32 ∷ (get_or cs c no_course).id) (take i members) → count ≡ length members → length members ≤ i
    → new ++ 10 ∷ [] ≡ old ++ line_text (Text id ∷ Number (length members) ∷ map (named cs) members)
curriculum_done cs id members count i old first mid new begun counted so_far count_is le =
    let grouped : mid ≡ (first ++ 32 ∷ []) ++ decimal count = counted ∙ sym (append_assoc first (32 ∷ []) (decimal count)) in
    let line : new ++ 10 ∷ [] ≡ (first ++ 32 ∷ []) ++ line_text (Number count ∷ map (named cs) (map (λ (c : ℕ). c) members)) =
    line_done (λ (c : ℕ). c) (named cs) (Number count) members i (first ++ 32 ∷ []) mid new grouped so_far le in
    let rest : List ℕ = line_text (Number (length members) ∷ map (named cs) members) in
    let same : line_text (Number count ∷ map (named cs) (map (λ (c : ℕ). c) members)) ≡ rest = rw (map-id members, count_is) refl in
    line ∙ rw (same, begun) (append_assoc (old ++ id) (32 ∷ []) rest ∙ append_assoc old id (32 ∷ rest))

-- seven lines in turn
seven_lines : (o : List ℕ) (l1 l2 l3 l4 l5 l6 l7 : List Piece)
    → ((((((o ++ line_text l1) ++ line_text l2) ++ line_text l3) ++ line_text l4) ++ line_text l5) ++ line_text l6) ++ line_text l7
    ≡ o ++ lines_text (l1 ∷ l2 ∷ l3 ∷ l4 ∷ l5 ∷ l6 ∷ l7 ∷ [])
seven_lines o l1 l2 l3 l4 l5 l6 l7 = simp (append_assoc, append-nil)

-- the lines before the first section
pub header_done : (p : Problem) (courses rooms curricula unavailabilities : ℕ) (o o1 o2 o3 o4 o5 o6 : List ℕ)
    → courses ≡ length p.courses → rooms ≡ length p.rooms → curricula ≡ length p.curricula → unavailabilities ≡ length p.unavailabilities
    → o1 ≡ o ++ line_text (fixed word.Name ∷ map Text p.name) → o2 ≡ o1 ++ line_text (counted_line word.Courses courses)
    → o3 ≡ o2 ++ line_text (counted_line word.Rooms rooms)
    → o4 ≡ o3 ++ line_text (counted_line word.Days p.days) → o5 ≡ o4 ++ line_text (counted_line word.PeriodsPerDay p.periods)
    → o6 ≡ o5 ++ line_text (counted_line word.Curricula curricula)
    → o6 ++ line_text (counted_line word.Constraints unavailabilities) ≡ o ++ lines_text (header_lines p)
header_done p courses rooms curricula unavailabilities o o1 o2 o3 o4 o5 o6 courses_is rooms_is curricula_is unavailabilities_is e1 e2 e3
    e4 e5 e6 =
    let up : o6 ≡
    (((((o ++ line_text (fixed word.Name ∷ map Text p.name)) ++ line_text (counted_line word.Courses courses)) ++ line_text
    (counted_line word.Rooms rooms)) ++ line_text (counted_line word.Days p.days))
    ++ line_text (counted_line word.PeriodsPerDay p.periods)) ++ line_text (counted_line word.Curricula curricula) = rw
    (e6, e5, e4, e3, e2, e1) refl in
    ap (λ (t : List ℕ). t ++ line_text (counted_line word.Constraints unavailabilities)) up
    ∙ seven_lines o (fixed word.Name ∷ map Text p.name) (counted_line word.Courses courses) (counted_line word.Rooms rooms)
    (counted_line word.Days p.days)
    (counted_line word.PeriodsPerDay p.periods) (counted_line word.Curricula curricula) (counted_line word.Constraints unavailabilities)
    ∙ rw (courses_is, rooms_is, curricula_is, unavailabilities_is) refl

-- six groups of lines in turn
six_texts : (a b c d e f : List (List Piece)) (o1 o2 o3 o4 o5 o6 : List ℕ) → o1 ≡ [] ++ lines_text a → o2 ≡ o1 ++ lines_text b
    → o3 ≡ o2 ++ lines_text c → o4 ≡ o3 ++ lines_text d
    → o5 ≡ o4 ++ lines_text e → o6 ≡ o5 ++ lines_text f → o6 ≡ lines_text (a ++ b ++ c ++ d ++ e ++ f)
six_texts a b c d e f o1 o2 o3 o4 o5 o6 e1 e2 e3 e4 e5 e6 = rw (e6, e5, e4, e3, e2, e1) (sym (simp lines_text-append))

-- all sections in turn
pub sections_done : (p : Problem) (courses : List Course) (rooms : List Room) (curricula : List Curriculum)
    (unavailabilities : List Unavailability) (cs1 cs2 : List Course) (o o1 o2 o3 o4 o5 o6 : List ℕ)
    → courses ≡ p.courses → rooms ≡ p.rooms → cs1 ≡ p.courses → curricula ≡ p.curricula → cs2 ≡ p.courses
    → unavailabilities ≡ p.unavailabilities
    → o ≡ [] → o1 ≡ o ++ lines_text (header_lines p) → o2 ≡ o1 ++ lines_text (section word.CoursesPart ++ map course_pieces courses)
    → o3 ≡ o2 ++ lines_text (section word.RoomsPart ++ map room_pieces rooms)
    → o4 ≡ o3 ++ lines_text (section word.CurriculaPart ++ map (curriculum_pieces cs1) curricula)
    → o5 ≡ o4 ++ lines_text (section word.UnavailabilityPart ++ map (unavailability_pieces cs2) unavailabilities)
    → o6 ≡ o5 ++ lines_text (section word.End) → o6 ≡ instance_text p
sections_done p courses rooms curricula unavailabilities cs1 cs2 o o1 o2 o3 o4 o5 o6 courses_are rooms_are cs1_are curricula_are cs2_are
    unavailabilities_are none e1 e2 e3 e4 e5 e6 =
    six_texts (header_lines p) (section word.CoursesPart ++ map course_pieces p.courses) (section word.RoomsPart ++ map room_pieces p.rooms)
    (section word.CurriculaPart ++ map (curriculum_pieces p.courses) p.curricula)
    (section word.UnavailabilityPart ++ map (unavailability_pieces p.courses) p.unavailabilities) (section word.End) o1 o2 o3 o4 o5 o6
    (e1 ∙ rw none refl)
    (e2 ∙ ap (λ (xs : List Course). o1 ++ lines_text (section word.CoursesPart ++ map course_pieces xs)) courses_are)
    (e3 ∙ ap (λ (xs : List Room). o2 ++ lines_text (section word.RoomsPart ++ map room_pieces xs)) rooms_are)
    (e4 ∙ ap (λ (cs : List Course). o3 ++ lines_text (section word.CurriculaPart ++ map (curriculum_pieces cs) curricula)) cs1_are
    ∙ ap (λ (xs : List Curriculum). o3 ++ lines_text (section word.CurriculaPart ++ map (curriculum_pieces p.courses) xs))
    curricula_are)
    (e5 ∙ ap (λ (cs : List Course). o4 ++ lines_text
    (section word.UnavailabilityPart ++ map (unavailability_pieces cs) unavailabilities)) cs2_are
    ∙ ap (λ (xs : List Unavailability). o4 ++ lines_text
    (section word.UnavailabilityPart ++ map (unavailability_pieces p.courses) xs)) unavailabilities_are)
    e6

module _ (p : Parts) (courses : List CourseRow) (courses_are : courses ≡ p.courses.rows.items)
    (instance : IsInstance (problem_seen p)) where
  -- the number of rows is the number of courses
  count_is : length (courses_seen p.courses.rows.items) ≡ length courses
  count_is = length-map p.courses.rows.items course_seen ∙ ap length (sym courses_are)

  -- the members of each curriculum have rows
  pub members_within : (rows : List CurriculumRow) → rows ≡ p.curricula.items
      → All (λ q. All (λ c. c < length courses) q.members.courses.items) rows
  members_within rows rows_are =
      let Q : Curriculum → Type 0 = λ q. All (λ c. c < length courses) q.members in
      let count : ℕ = length (courses_seen p.courses.rows.items) in
      let Is : Curriculum → Type 0 = IsCurriculum count in
      let all : All Q (curricula_seen p.curricula.items) = All-weaker Is Q
      (λ q is. All-weaker (λ (c : ℕ). c < count) (λ (c : ℕ). c < length courses) (λ c lt. omega (arith, lt, count_is)) q.members is.1)
      (curricula_seen p.curricula.items) instance.within.each_curriculum in
      subst (λ (qs : List CurriculumRow). All (λ q. All (λ c. c < length courses) q.members.courses.items) qs) (sym rows_are)
      (all_seen curriculum_seen Q p.curricula.items all)

  -- the course of each unavailability has a row
  pub unavailabilities_within : (rows : List UnavailabilityRow) → rows ≡ p.unavailabilities.rows.items
      → All (λ b. b.course < length courses) rows
  unavailabilities_within rows rows_are =
      let Q : Unavailability → Type 0 = λ b. b.course < length courses in
      let Is : Unavailability → Type 0 = IsUnavailability (length (courses_seen p.courses.rows.items)) p.days p.periods in
      let all : All Q (unavailabilities_seen p.unavailabilities.rows.items) = All-weaker Is Q (λ b is. omega (arith, is.0, count_is))
      (unavailabilities_seen p.unavailabilities.rows.items) instance.within.each_unavailability in
      subst (λ (bs : List UnavailabilityRow). All (λ b. b.course < length courses) bs) (sym rows_are)
      (all_seen unavailability_seen Q p.unavailabilities.rows.items all)

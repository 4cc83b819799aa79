-- The text written for an instance spells it.
use Rattle.std.proofs.Common.{◌≡◌, ℕ, ◌<◌, ◌≤◌, ◌^◌, List, [], ◌∷◌, ◌++◌, length, map, get_or, refl, ap, subst, ◌∙◌, arith, lit≤}
use Rattle.std.specs.List.{flat_map}
use Rattle.std.proofs.lemmas.List.Elements.{All-weaker}
use Rattle.tt_text.specs.Tokens.{IsToken, tokens_of}
use Rattle.tt_text.specs.Pieces.{Piece, Text, Number, Begins}
use Rattle.tt_text.specs.Lines.{all_pieces, IsWritable, AreWritable, LinesWritable}
use Rattle.tt_text.proofs.Lines.{lines_begin}
use Rattle.tt_text.proofs.Parts.{all_pieces-append, all_pieces-map, AreWritable-map, LinesWritable-append, LinesWritable-map}
use Rattle.tt_instance_read.specs.declared.fault.Word.{Word}
use Rattle.tt_instance_read.specs.declared.fault.Word.TheVariants as word
use Rattle.tt_instance_read.specs.Words.{word_text, fixed}
use Rattle.tt_instance.specs.Problem.{Course, Unavailability, Problem}
use Rattle.tt_instance.specs.Courses.{no_course}
use Rattle.tt_instance.specs.Limits.{IsInstance}
use Rattle.tt_instance.specs.Spelling.{course_pieces, room_pieces, curriculum_pieces, unavailability_pieces, pieces, named, Spells}
use Rattle.tt_instance_write.specs.Writing.{section, header_lines, instance_lines, instance_text}
use Rattle.tt_instance.proofs.Each.{IsCurriculum, IsUnavailability}
use Rattle.tt_instance.proofs.CourseLimits.{each_few}
use Rattle.tt_instance_write.proofs.KeptLaws.{kept_stays}

-- each fixed word is a token
word_token : (w : Word) → IsToken (word_text w)
word_token word.Name = record { some = lit≤ tt; within = refl }
word_token word.Courses = record { some = lit≤ tt; within = refl }
word_token word.Rooms = record { some = lit≤ tt; within = refl }
word_token word.Days = record { some = lit≤ tt; within = refl }
word_token word.PeriodsPerDay = record { some = lit≤ tt; within = refl }
word_token word.Curricula = record { some = lit≤ tt; within = refl }
word_token word.Constraints = record { some = lit≤ tt; within = refl }
word_token word.CoursesPart = record { some = lit≤ tt; within = refl }
word_token word.RoomsPart = record { some = lit≤ tt; within = refl }
word_token word.CurriculaPart = record { some = lit≤ tt; within = refl }
word_token word.UnavailabilityPart = record { some = lit≤ tt; within = refl }
word_token word.End = record { some = lit≤ tt; within = refl }

-- each number of an instance is below 2^64
small : (n : ℕ) → n ≤ 1000000 → n < 2 ^ 64
small n h = omega arith

-- a word and a number can be written
counted : (w : Word) (n : ℕ) → n ≤ 1000000 → AreWritable (fixed w ∷ Number n ∷ [])
counted w n h = (word_token w, (small n h, tt))

-- the head of a section can be written
section_writable : (w : Word) → LinesWritable (section w)
section_writable w = (tt, ((word_token w, tt), tt))

-- ---- a file in its parts

-- a section: its head, and a line for each item
abbrev section_lines : {X : Type 0} → Word → (X → List Piece) → List X → List (List Piece)
section_lines w line xs = section w ++ map line xs

-- the pieces of a section
section_is : {X : Type 0} (w : Word) (line : X → List Piece) (xs : List X)
    → all_pieces (section_lines w line xs) ≡ fixed w ∷ flat_map line xs
section_is w line xs = ap (λ (ps : List Piece). fixed w ∷ ps) (all_pieces-map line xs)

-- the pieces of a file in its parts
all_parts : (header courses rooms curricula unavailabilities last : List (List Piece))
    → all_pieces (header ++ courses ++ rooms ++ curricula ++ unavailabilities ++ last)
    ≡ all_pieces header ++ all_pieces courses ++ all_pieces rooms ++ all_pieces curricula ++ all_pieces unavailabilities ++ all_pieces last
all_parts header courses rooms curricula unavailabilities last = simp all_pieces-append

-- files whose parts are equal are equal
same_parts : (header a1 a2 b1 b2 c1 c2 d1 d2 last : List Piece) → a1 ≡ a2 → b1 ≡ b2 → c1 ≡ c2 → d1 ≡ d2
    → header ++ a1 ++ b1 ++ c1 ++ d1 ++ last ≡ header ++ a2 ++ b2 ++ c2 ++ d2 ++ last
same_parts header a1 a2 b1 b2 c1 c2 d1 d2 last a b c d = rw (a, b, c, d) refl

-- parts that can be written
parts_writable : (header courses rooms curricula unavailabilities last : List (List Piece)) → LinesWritable header
    → LinesWritable courses → LinesWritable rooms → LinesWritable curricula → LinesWritable unavailabilities → LinesWritable last
    → LinesWritable (header ++ courses ++ rooms ++ curricula ++ unavailabilities ++ last)
parts_writable header courses rooms curricula unavailabilities last h c r q b e =
    let to_courses = LinesWritable-append header courses h c in
    let to_rooms = LinesWritable-append (header ++ courses) rooms to_courses r in
    let to_curricula = LinesWritable-append (header ++ courses ++ rooms) curricula to_rooms q in
    let to_unavailabilities = LinesWritable-append (header ++ courses ++ rooms ++ curricula) unavailabilities to_curricula b in
    LinesWritable-append (header ++ courses ++ rooms ++ curricula ++ unavailabilities) last to_unavailabilities e

-- -- an instance can be written

module _ (p : Problem) (ok : IsInstance p) where
  -- the name and the header can be written
  header_writable : LinesWritable (header_lines p)
  header_writable =
      let name : AreWritable (fixed word.Name ∷ map Text p.name) = (word_token word.Name, AreWritable-map Text p.name ok.name_tokens) in
      let courses = counted word.Courses (length p.courses) (omega (arith, ok.within.courses)) in
      let rooms = counted word.Rooms (length p.rooms) (omega (arith, ok.within.rooms)) in
      let days = counted word.Days p.days (omega (arith, ok.within.days)) in
      let periods = counted word.PeriodsPerDay p.periods (omega (arith, ok.within.periods)) in
      let curricula = counted word.Curricula (length p.curricula) (omega (arith, ok.within.curricula)) in
      let unavailabilities = counted word.Constraints (length p.unavailabilities) (omega (arith, ok.within.unavailabilities)) in
      (name, (courses, (rooms, (days, (periods, (curricula, (unavailabilities, tt)))))))

  -- the courses can be written
  courses_writable : LinesWritable (map course_pieces p.courses)
  courses_writable =
      LinesWritable-map course_pieces p.courses (λ k d h.
      let c : Course = get_or p.courses k d in
      let texts = ok.course_tokens k d h in
      let n = each_few p ok.within k d h in
      (texts.0, (texts.1, (small c.lectures (omega (arith, n.0)), (small c.min_days (omega (arith, n.1)), (small c.students n.2, tt))))))

  -- the rooms can be written
  rooms_writable : LinesWritable (map room_pieces p.rooms)
  rooms_writable = LinesWritable-map room_pieces p.rooms
      (λ k d h. (ok.room_tokens k d h, (small (get_or p.rooms k d).capacity (ok.within.each_room k d h), tt)))

  -- the name of a course can be written
  named_writable : (c : ℕ) → c < length p.courses → IsWritable (named p.courses c)
  named_writable c h = (ok.course_tokens c no_course h).0

  -- the curricula can be written
  curricula_writable : LinesWritable (map (curriculum_pieces p.courses) p.curricula)
  curricula_writable =
      LinesWritable-map (curriculum_pieces p.courses) p.curricula (λ k d h.
      let is : IsCurriculum (length p.courses) (get_or p.curricula k d) = ok.within.each_curriculum k d h in
      let ms : List ℕ = (get_or p.curricula k d).members in
      let names = AreWritable-map (named p.courses) ms
      (All-weaker (λ c. c < length p.courses) (λ c. IsWritable (named p.courses c)) named_writable ms is.1) in
      (ok.curriculum_tokens k d h, (small (length ms) (omega (arith, is.0)), names)))

  -- the unavailabilities can be written
  unavailabilities_writable : LinesWritable (map (unavailability_pieces p.courses) p.unavailabilities)
  unavailabilities_writable =
      LinesWritable-map (unavailability_pieces p.courses) p.unavailabilities (λ k d h.
      let b : Unavailability = get_or p.unavailabilities k d in
      let is : IsUnavailability (length p.courses) p.days p.periods b = ok.within.each_unavailability k d h in (
        named_writable b.course is.0,
        (small b.day (omega (arith, is.1, ok.within.days)), (small b.period (omega (arith, is.2, ok.within.periods)), tt)),
      ))

  -- an instance can be written
  writable : LinesWritable (instance_lines p)
  writable =
      let courses = LinesWritable-append (section word.CoursesPart) (map course_pieces p.courses)
      (section_writable word.CoursesPart) courses_writable in
      let rooms = LinesWritable-append (section word.RoomsPart) (map room_pieces p.rooms)
      (section_writable word.RoomsPart) rooms_writable in
      let curricula = LinesWritable-append (section word.CurriculaPart) (map (curriculum_pieces p.courses) p.curricula)
      (section_writable word.CurriculaPart) curricula_writable in
      let unavailabilities = LinesWritable-append (section word.UnavailabilityPart)
      (map (unavailability_pieces p.courses) p.unavailabilities) (section_writable word.UnavailabilityPart) unavailabilities_writable in
      parts_writable (header_lines p) (section_lines word.CoursesPart course_pieces p.courses)
      (section_lines word.RoomsPart room_pieces p.rooms)
      (section_lines word.CurriculaPart (curriculum_pieces p.courses) p.curricula)
      (section_lines word.UnavailabilityPart (unavailability_pieces p.courses) p.unavailabilities) (section word.End)
      header_writable courses rooms curricula unavailabilities (section_writable word.End)

-- the lines of a file have its pieces
lines_are : (p : Problem) → all_pieces (instance_lines p) ≡ pieces p
lines_are p =
    all_parts (header_lines p) (section_lines word.CoursesPart course_pieces p.courses) (section_lines word.RoomsPart room_pieces p.rooms)
    (section_lines word.CurriculaPart (curriculum_pieces p.courses) p.curricula)
    (section_lines word.UnavailabilityPart (unavailability_pieces p.courses) p.unavailabilities) (section word.End)
    ∙ same_parts (all_pieces (header_lines p)) _ _ _ _ _ _ _ _ (fixed word.End ∷ [])
    (section_is word.CoursesPart course_pieces p.courses) (section_is word.RoomsPart room_pieces p.rooms)
    (section_is word.CurriculaPart (curriculum_pieces p.courses) p.curricula)
    (section_is word.UnavailabilityPart (unavailability_pieces p.courses) p.unavailabilities)

-- the text written for an instance spells it
pub written_again : (p : Problem) → IsInstance p → Spells (instance_text p) p
written_again p ok = record {
  written = p;
  rest = [];
  begins = subst (λ (ps : List Piece). Begins ps (tokens_of (instance_text p)) []) (lines_are p)
      (lines_begin (instance_lines p) 0 (writable p ok));
  within = ok.within;
  is_kept = kept_stays p ok.members_once ok.unavailabilities_once;
}

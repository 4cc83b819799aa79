-- A whole file: an instance that is read is spelled, and one that is spelled is read.
use Rattle.std.proofs.Common.{◌≡◌, ℕ, List, [], ◌∷◌, ◌++◌, length, map, Result, Ok, refl, sym, ap, subst, ◌∙◌, append_assoc}
use Rattle.std.specs.Prelude.{All}
use Rattle.std.proofs.lemmas.List.{append-nil}
use Rattle.tt_text.specs.Tokens.{Placed, tokens_of}
use Rattle.tt_text.specs.Pieces.{Piece, Text, Begins}
use Rattle.tt_text.proofs.Steps.{done, bind_ok, bind_is, Takes, takes_then}
use Rattle.tt_instance_read.specs.declared.fault.InstanceFault.{InstanceFault}
use Rattle.tt_instance_read.specs.declared.fault.Word.TheVariants as word
use Rattle.tt_instance_read.specs.Words.{fixed}
use Rattle.tt_instance.specs.Problem.{Curriculum, Unavailability, Problem}
use Rattle.tt_instance.specs.Limits.{IsWithinLimits}
use Rattle.tt_instance_read.specs.Reading.{Counts, Sections, word_at, name_at, header_at, sections_at, instance_of}
use Rattle.tt_instance.specs.Spelling.{pieces, without_repeats, Spells}
use Rattle.tt_instance_read.proofs.FieldLaws.{word_takes, has_word}
use Rattle.tt_instance_read.proofs.HeaderLaws.{IsNamePart, IsHeader, count_pieces, name_takes, name_reads, header_takes, header_reads}
use Rattle.tt_instance_read.proofs.CurriculumLaws.{all_kept}
use Rattle.tt_instance_read.proofs.UnavailabilityLaws.{unavailabilities_once}
use Rattle.tt_instance_read.proofs.SectionLaws.{ArePlaces, AreGroups, section_pieces, sections_take, sections_read}

-- ---- an instance and its counts

-- the numbers of an instance's header
abbrev counts_of : Problem → Counts
counts_of w = record {
  courses = length w.courses;
  rooms = length w.rooms;
  days = w.days;
  periods = w.periods;
  curricula = length w.curricula;
  unavailabilities = length w.unavailabilities;
}

-- the sections of an instance
abbrev sections_of : Problem → List Piece
sections_of w = section_pieces w.courses w.rooms w.curricula w.unavailabilities

-- a header with these counts
counts_are : (c : Counts) (n m q b : ℕ) → n ≡ c.courses → m ≡ c.rooms → q ≡ c.curricula → b ≡ c.unavailabilities
    → c ≡ record { courses = n; rooms = m; days = c.days; periods = c.periods; curricula = q; unavailabilities = b }
counts_are c n m q b n_is m_is q_is b_is = rw (n_is, m_is, q_is, b_is) refl

-- the limits of the parts imply those of the whole
within_limits : (w : Problem) → All IsNamePart w.name → IsHeader (counts_of w) → ArePlaces (counts_of w) w.courses w.rooms
    → AreGroups (counts_of w) w.courses w.curricula w.unavailabilities → IsWithinLimits w
within_limits w name header places groups = record {
  name = name;
  courses = header.courses;
  rooms = header.rooms;
  some_day = header.some_day;
  days = header.days;
  some_period = header.periods.some;
  periods = header.periods.within;
  slots = header.periods.slots;
  cells = header.periods.cells;
  curricula = header.curricula;
  unavailabilities = header.unavailabilities;
  course_names = places.all_courses.names;
  room_names = places.all_rooms.names;
  curriculum_names = groups.all_curricula.names;
  lectures = places.all_courses.lectures;
  each_course = places.all_courses.each;
  each_room = places.all_rooms.each;
  each_curriculum = groups.all_curricula.each;
  each_unavailability = groups.each_unavailability;
}

-- the limits of the whole imply those of its header
header_within : (w : Problem) → IsWithinLimits w → IsHeader (counts_of w)
header_within w within = record {
  courses = within.courses;
  rooms = within.rooms;
  some_day = within.some_day;
  days = within.days;
  periods = record { some = within.some_period; within = within.periods; slots = within.slots; cells = within.cells };
  curricula = within.curricula;
  unavailabilities = within.unavailabilities;
}

-- the limits of the whole imply those of its courses and rooms
places_within : (w : Problem) → IsWithinLimits w → ArePlaces (counts_of w) w.courses w.rooms
places_within w within = record {
  courses = refl;
  rooms = refl;
  all_courses = record { names = within.course_names; lectures = within.lectures; each = within.each_course };
  all_rooms = record { names = within.room_names; each = within.each_room };
}

-- the limits of the whole imply those of its curricula and unavailabilities
groups_within : (w : Problem) → IsWithinLimits w → AreGroups (counts_of w) w.courses w.curricula w.unavailabilities
groups_within w within = record {
  curricula = refl;
  unavailabilities = refl;
  all_curricula = record { names = within.curriculum_names; each = within.each_curriculum };
  each_unavailability = within.each_unavailability;
}

-- -- an instance that is read is spelled

-- all pieces after the first word, part by part
abbrev part_pieces : Problem → List Piece
part_pieces w = (map Text w.name ++ fixed word.Courses ∷ []) ++ (count_pieces (counts_of w) ++ sections_of w)

-- the pieces of a file, part by part
regrouped : (w : Problem) → pieces w ≡ (fixed word.Name ∷ []) ++ part_pieces w
regrouped w = simp append_assoc

-- tokens that begin with each part in turn begin with the whole
parts_begin : (w : Problem) (ts t1 t2 t3 t4 : List Placed) → Takes ts (fixed word.Name ∷ []) t1
    → Takes t1 (map Text w.name ++ fixed word.Courses ∷ []) t2
    → Takes t2 (count_pieces (counts_of w)) t3 → Takes t3 (sections_of w) t4 → Begins (pieces w) ts t4
parts_begin w ts t1 t2 t3 t4 first name header sections =
    let whole : Takes ts ((fixed word.Name ∷ []) ++ part_pieces w) t4 =
    takes_then _ _ _ _ _ first (takes_then _ _ _ _ _ name (takes_then _ _ _ _ _ header sections)) in
    subst (λ (ps : List Piece). Begins ps ts t4) (append-nil ((fixed word.Name ∷ []) ++ part_pieces w) ∙ sym (regrouped w))
    (whole.take [] t4 refl)

-- the instance made of the parts read
abbrev problem_of : List (List ℕ) → Counts → Sections → Problem
problem_of name c s = record {
  name = name;
  days = c.days;
  periods = c.periods;
  courses = s.courses;
  rooms = s.rooms;
  curricula = s.curricula;
  unavailabilities = s.unavailabilities;
}

-- an instance as it is written
abbrev written_of : List (List ℕ) → Counts → Sections → List Curriculum → List Unavailability → Problem
written_of name c s qs bs = record {
  name = name;
  days = c.days;
  periods = c.periods;
  courses = s.courses;
  rooms = s.rooms;
  curricula = qs;
  unavailabilities = bs;
}

-- the instance read is the written one without its repeats
kept_is : (read name : List (List ℕ)) (c : Counts) (s : Sections) (qs : List Curriculum) (bs : List Unavailability) → read ≡ name
    → s.curricula ≡ all_kept qs → s.unavailabilities ≡ unavailabilities_once bs
    → problem_of read c s ≡ without_repeats (written_of name c s qs bs)
kept_is read name c s qs bs name_is qs_is bs_is = rw (name_is, qs_is, bs_is) refl

-- two equal results are the same instance
problem_done : (p q : Problem) → (let r : Result Problem InstanceFault = Ok p in r) ≡ Ok q → p ≡ q
problem_done p q e = cc

-- an instance that was read is spelled
pub is_spelled : (bytes : List ℕ) (p : Problem) → instance_of bytes ≡ Ok p → Spells bytes p
unfolding instance_of
is_spelled bytes p e =
    let first = bind_ok (word_at (length bytes) word.Name (tokens_of bytes)) _ p e in
    let name = bind_ok (name_at (length bytes) [] first.0) _ p first.2 in
    let header = bind_ok (header_at (length bytes) name.0.1) _ p name.2 in
    let sections = bind_ok (sections_at (length bytes) header.0.0 header.0.1) _ p header.2 in
    let n = name_takes (length bytes) [] first.0 name.0 name.1 in
    let h = header_takes (length bytes) name.0.1 header.0 header.1 in
    let s = sections_take (length bytes) header.0.0 header.0.1 sections.0 h.1.some_day h.1.periods.some sections.1 in
    let w : Problem = written_of n.name header.0.0 sections.0.0 s.curricula s.unavailabilities in
    let counts : header.0.0 ≡ counts_of w =
    counts_are header.0.0 (length w.courses) (length w.rooms) (length w.curricula)
    (length w.unavailabilities) s.places.courses s.places.rooms s.groups.curricula s.groups.unavailabilities in
    let name_word : Takes (tokens_of bytes) (fixed word.Name ∷ []) first.0 = word_takes (length bytes) word.Name
    (tokens_of bytes) first.0 first.1 in
    let counted : Takes name.0.1 (count_pieces (counts_of w)) header.0.1 =
    subst (λ (c : Counts). Takes name.0.1 (count_pieces c) header.0.1) counts h.0 in
    record {
      written = w;
      rest = sections.0.1;
      begins = parts_begin w (tokens_of bytes) first.0 name.0.1 header.0.1 sections.0.1 name_word n.takes counted s.takes;
      within =
          within_limits w n.other (subst IsHeader counts h.1) (subst (λ c. ArePlaces c w.courses w.rooms) counts s.places)
          (subst (λ c. AreGroups c w.courses w.curricula w.unavailabilities) counts s.groups);
      is_kept = sym (problem_done _ p sections.2)
          ∙ kept_is name.0.0 n.name header.0.0 sections.0.0 s.curricula s.unavailabilities n.list s.curricula_kept s.unavailabilities_kept;
    }

-- -- an instance that is spelled is read

-- an instance that is spelled is read
pub is_read : (bytes : List ℕ) (p : Problem) → Spells bytes p → instance_of bytes ≡ Ok p
unfolding instance_of
is_read bytes p spelled =
    let w : Problem = spelled.written in
    let after_name : List Piece = count_pieces (counts_of w) ++ sections_of w in
    let grouped : pieces w ≡ fixed word.Name ∷ (map Text w.name ++ (fixed word.Courses ∷ after_name)) = simp append_assoc in
    let first =
    has_word (length bytes) word.Name (tokens_of bytes) (map Text w.name ++ (fixed word.Courses ∷ after_name)) spelled.rest
    (subst (λ (ps : List Piece). Begins ps (tokens_of bytes) spelled.rest) grouped spelled.begins) in
    let name = name_reads (length bytes) [] w.name first.mid after_name spelled.rest spelled.within.name first.left in
    let header = header_reads (length bytes) name.mid (counts_of w) (sections_of w) spelled.rest
    (header_within w spelled.within) name.left in
    let sections =
    sections_read (length bytes) (counts_of w) header.mid w.courses w.rooms w.curricula w.unavailabilities [] spelled.rest
    (places_within w spelled.within) (groups_within w spelled.within)
    (subst (λ (ps : List Piece). Begins ps header.mid spelled.rest) (sym (append-nil (sections_of w))) header.left) in
    let read : Sections = record {
      courses = w.courses;
      rooms = w.rooms;
      curricula = all_kept w.curricula;
      unavailabilities = unavailabilities_once w.unavailabilities;
    } in
    bind_is _ first.mid _ _ first.is
    (bind_is _ (w.name, name.mid) _ _ name.is
    (bind_is _ (counts_of w, header.mid) _ _ header.is (bind_is _ (read, sections.mid) _ _ sections.is
    (ap (λ (q : Problem). done q) (sym spelled.is_kept)))))

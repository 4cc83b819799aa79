-- The sections after the header: those that are read are spelled, and those that are spelled are read.
use Rattle.std.proofs.Common.{◌≡◌, ℕ, ◌<◌, List, [], ◌∷◌, ◌++◌, length, Ok, refl, sym, subst, append_assoc}
use Rattle.std.specs.Prelude.{All}
use Rattle.std.specs.List.{flat_map}
use Rattle.tt_text.specs.Tokens.{Placed}
use Rattle.tt_text.specs.Pieces.{Piece, Begins}
use Rattle.tt_text.proofs.Steps.{ok_is, bind_ok, bind_is, Takes, takes_then}
use Rattle.tt_text.proofs.Fields.{ReadsOn}
use Rattle.tt_instance_read.specs.declared.fault.Word.TheVariants as word
use Rattle.tt_instance_read.specs.Words.{fixed}
use Rattle.tt_instance.specs.Problem.{Course, Room, Curriculum, Unavailability}
use Rattle.tt_instance.specs.Columns.{ids_of}
use Rattle.tt_instance_read.specs.Reading.{Counts, Sections, word_at, courses_at, rooms_at, curricula_at, unavailabilities_at, places_at, groups_at, sections_at}
use Rattle.tt_instance.specs.Spelling.{course_pieces, room_pieces, curriculum_pieces, unavailability_pieces}
use Rattle.tt_instance.proofs.Each.{IsUnavailability}
use Rattle.tt_instance.proofs.AfterLaws.{All-from_each_after}
use Rattle.tt_instance_read.proofs.FieldLaws.{word_takes, has_word}
use Rattle.tt_instance_read.proofs.NextLaws.{AreCourses, AreRooms, AreCurricula, courses_next, courses_are, rooms_next, rooms_are, curricula_next, curricula_are}
use Rattle.tt_instance_read.proofs.NameLaws.{AreNamed}
use Rattle.tt_instance_read.proofs.CourseLaws.{courses_take, courses_read}
use Rattle.tt_instance_read.proofs.RoomLaws.{rooms_take, rooms_read}
use Rattle.tt_instance_read.proofs.CurriculumLaws.{all_kept, curricula_take, curricula_read}
use Rattle.tt_instance_read.proofs.UnavailabilityLaws.{unavailabilities_once, IsNextUnavailability, unavailabilities_take, unavailabilities_read}

-- ---- courses and rooms

-- the sections of courses and of rooms
abbrev pub place_pieces : List Course → List Room → List Piece
place_pieces cs rs = (fixed word.CoursesPart ∷ flat_map course_pieces cs) ++ (fixed word.RoomsPart ∷ flat_map room_pieces rs)

-- courses and rooms that match their counts, within the limits
pub record ArePlaces (counts : Counts) (cs : List Course) (rs : List Room) : Type 0 where
  pub courses : length cs ≡ counts.courses
  pub rooms : length rs ≡ counts.rooms
  pub all_courses : AreCourses cs
  pub all_rooms : AreRooms rs

-- courses and rooms that were read are spelled
places_take : (end : ℕ) (counts : Counts) (ts : List Placed) (x : (List Course × List Room) × List Placed)
    → places_at end counts ts ≡ Ok x → Takes ts (place_pieces x.0.0 x.0.1) x.1 × ArePlaces counts x.0.0 x.0.1
unfolding places_at
places_take end counts ts x e =
    let w1 = bind_ok (word_at end word.CoursesPart ts) _ x e in
    let courses = bind_ok (courses_at end counts.courses [] w1.0) _ x w1.2 in
    let w2 = bind_ok (word_at end word.RoomsPart courses.0.1) _ x courses.2 in
    let rooms = bind_ok (rooms_at end counts.rooms [] w2.0) _ x w2.2 in
    let c = courses_take end counts.courses w1.0 courses.0 courses.1 in
    let r = rooms_take end counts.rooms w2.0 rooms.0 rooms.1 in
    let t1 : Takes ts (fixed word.CoursesPart ∷ flat_map course_pieces c.items) courses.0.1 =
    takes_then _ _ _ _ _ (word_takes end word.CoursesPart ts w1.0 w1.1) c.takes in
    let t2 : Takes courses.0.1 (fixed word.RoomsPart ∷ flat_map room_pieces r.items) rooms.0.1 =
    takes_then _ _ _ _ _ (word_takes end word.RoomsPart courses.0.1 w2.0 w2.1) r.takes in
    let takes : Takes ts (place_pieces courses.0.0 rooms.0.0) rooms.0.1 =
    subst (λ cs. Takes ts (place_pieces cs rooms.0.0) rooms.0.1) (sym c.list)
    (subst (λ rs. Takes ts (place_pieces c.items rs) rooms.0.1) (sym r.list) (takes_then _ _ _ _ _ t1 t2)) in
    let are : ArePlaces counts courses.0.0 rooms.0.0 =
    subst (λ cs. ArePlaces counts cs rooms.0.0) (sym c.list) (subst (λ rs. ArePlaces counts c.items rs) (sym r.list)
    (record { courses = c.len; rooms = r.len; all_courses = courses_are c.items c.each; all_rooms = rooms_are r.items r.each })) in
    subst (λ (y : (List Course × List Room) × List Placed). Takes ts (place_pieces y.0.0 y.0.1) y.1 × ArePlaces counts y.0.0 y.0.1)
    (ok_is ((courses.0.0, rooms.0.0), rooms.0.1) x rooms.2) (takes, are)

-- courses and rooms that are spelled are read
places_read : (end : ℕ) (counts : Counts) (ts : List Placed) (cs : List Course) (rs : List Room) (qs : List Piece) (rest : List Placed)
    → ArePlaces counts cs rs → Begins (place_pieces cs rs ++ qs) ts rest
    → ReadsOn (places_at end counts ts) (cs, rs) qs rest
unfolding places_at
places_read end counts ts cs rs qs rest ok h =
    let room_part : List Piece = flat_map room_pieces rs ++ qs in
    let course_part : List Piece = flat_map course_pieces cs ++ (fixed word.RoomsPart ∷ room_part) in
    let grouped : place_pieces cs rs ++ qs ≡ fixed word.CoursesPart ∷ course_part = simp append_assoc in
    let w1 = has_word end word.CoursesPart ts course_part rest (subst (λ (ps : List Piece). Begins ps ts rest) grouped h) in
    let courses = courses_read end w1.mid cs (fixed word.RoomsPart ∷ room_part) rest (courses_next cs ok.all_courses) w1.left in
    let w2 = has_word end word.RoomsPart courses.mid room_part rest courses.left in
    let rooms = rooms_read end w2.mid rs qs rest (rooms_next rs ok.all_rooms) w2.left in
    let c_is : courses_at end counts.courses [] w1.mid ≡ Ok (cs, courses.mid) =
    subst (λ (n : ℕ). courses_at end n [] w1.mid ≡ Ok (cs, courses.mid)) ok.courses courses.is in
    let r_is : rooms_at end counts.rooms [] w2.mid ≡ Ok (rs, rooms.mid) =
    subst (λ (n : ℕ). rooms_at end n [] w2.mid ≡ Ok (rs, rooms.mid)) ok.rooms rooms.is in
    record {
      mid = rooms.mid;
      is = bind_is _ w1.mid _ _ w1.is
          (bind_is _ (cs, courses.mid) _ _ c_is (bind_is _ w2.mid _ _ w2.is (bind_is _ (rs, rooms.mid) _ _ r_is refl)));
      left = rooms.left;
    }

-- ---- curricula and unavailabilities

-- the sections of curricula and of unavailabilities, and the last word
abbrev pub group_pieces : List Course → List Curriculum → List Unavailability → List Piece
group_pieces cs qs bs =
    (fixed word.CurriculaPart ∷ flat_map (curriculum_pieces cs) qs) ++
    ((fixed word.UnavailabilityPart ∷ flat_map (unavailability_pieces cs) bs) ++ (fixed word.End ∷ []))

-- curricula and unavailabilities that match their counts, within the limits
pub record AreGroups (counts : Counts) (cs : List Course) (qs : List Curriculum) (bs : List Unavailability) : Type 0 where
  pub curricula : length qs ≡ counts.curricula
  pub unavailabilities : length bs ≡ counts.unavailabilities
  pub all_curricula : AreCurricula (length cs) qs
  pub each_unavailability : All (IsUnavailability (length cs) counts.days counts.periods) bs

-- the result of reading curricula and unavailabilities
record GroupsTaken (counts : Counts) (cs : List Course) (ts : List Placed) (x : (List Curriculum × List Unavailability) × List Placed) :
    Type 0 where
  curricula : List Curriculum
  unavailabilities : List Unavailability
  are : AreGroups counts cs curricula unavailabilities
  curricula_kept : x.0.0 ≡ all_kept curricula
  unavailabilities_kept : x.0.1 ≡ unavailabilities_once unavailabilities
  takes : Takes ts (group_pieces cs curricula unavailabilities) x.1

-- curricula and unavailabilities that were read are spelled
groups_take : (end : ℕ) (counts : Counts) (cs : List Course) (ts : List Placed)
    (x : (List Curriculum × List Unavailability) × List Placed) → 0 < counts.days → 0 < counts.periods
    → groups_at end counts (ids_of cs) ts ≡ Ok x → GroupsTaken counts cs ts x
unfolding groups_at
groups_take end counts cs ts x some_day some_period e =
    let w1 = bind_ok (word_at end word.CurriculaPart ts) _ x e in
    let curricula = bind_ok (curricula_at end (ids_of cs) counts.curricula [] w1.0) _ x w1.2 in
    let w2 = bind_ok (word_at end word.UnavailabilityPart curricula.0.1) _ x curricula.2 in
    let unavailabilities = bind_ok (unavailabilities_at end (ids_of cs) counts.days counts.periods counts.unavailabilities [] w2.0) _ x
    w2.2 in
    let w3 = bind_ok (word_at end word.End unavailabilities.0.1) _ x unavailabilities.2 in
    let q = curricula_take end cs counts.curricula w1.0 curricula.0 curricula.1 in
    let b = unavailabilities_take cs counts.days counts.periods end some_day some_period counts.unavailabilities w2.0 unavailabilities.0
    unavailabilities.1 in
    let t1 : Takes ts (fixed word.CurriculaPart ∷ flat_map (curriculum_pieces cs) q.items) curricula.0.1 =
    takes_then _ _ _ _ _ (word_takes end word.CurriculaPart ts w1.0 w1.1) q.takes in
    let t2 : Takes curricula.0.1 (fixed word.UnavailabilityPart ∷ flat_map (unavailability_pieces cs) b.items) unavailabilities.0.1 =
    takes_then _ _ _ _ _ (word_takes end word.UnavailabilityPart curricula.0.1 w2.0 w2.1) b.takes in
    let t3 : Takes unavailabilities.0.1 (fixed word.End ∷ []) w3.0 = word_takes end word.End unavailabilities.0.1 w3.0 w3.1 in
    let each_unavailability = All-from_each_after (IsNextUnavailability cs counts.days counts.periods)
    (IsUnavailability (length cs) counts.days counts.periods) (λ before unavailability ok. ok) [] b.items b.each in
    subst (GroupsTaken counts cs ts) (ok_is ((curricula.0.0, unavailabilities.0.0), w3.0) x w3.2) (record {
      curricula = q.items;
      unavailabilities = b.items;
      are = record {
        curricula = q.len;
        unavailabilities = b.len;
        all_curricula = curricula_are (length cs) q.items q.each;
        each_unavailability = each_unavailability;
      };
      curricula_kept = q.list;
      unavailabilities_kept = b.list;
      takes = takes_then _ _ _ _ _ t1 (takes_then _ _ _ _ _ t2 t3);
    })

-- curricula and unavailabilities that are spelled are read
groups_read : (end : ℕ) (counts : Counts) (cs : List Course) (ts : List Placed) (qs : List Curriculum) (bs : List Unavailability)
    (ps : List Piece) (rest : List Placed) → AreNamed cs
    → AreGroups counts cs qs bs → Begins (group_pieces cs qs bs ++ ps) ts rest → ReadsOn (groups_at end counts (ids_of cs) ts)
    (all_kept qs, unavailabilities_once bs) ps rest
unfolding groups_at
groups_read end counts cs ts qs bs ps rest apart ok h =
    let end_part : List Piece = fixed word.End ∷ ps in
    let unavailability_part : List Piece = flat_map (unavailability_pieces cs) bs ++ end_part in
    let curriculum_part : List Piece = flat_map (curriculum_pieces cs) qs ++ (fixed word.UnavailabilityPart ∷ unavailability_part) in
    let grouped : group_pieces cs qs bs ++ ps ≡ fixed word.CurriculaPart ∷ curriculum_part = simp append_assoc in
    let w1 = has_word end word.CurriculaPart ts curriculum_part rest (subst (λ (l : List Piece). Begins l ts rest) grouped h) in
    let curricula = curricula_read end cs apart w1.mid qs (fixed word.UnavailabilityPart ∷ unavailability_part) rest
    (curricula_next (length cs) qs ok.all_curricula) w1.left in
    let w2 = has_word end word.UnavailabilityPart curricula.mid unavailability_part rest curricula.left in
    let unavailabilities = unavailabilities_read cs counts.days counts.periods end apart w2.mid bs end_part rest ok.each_unavailability
    w2.left in
    let w3 = has_word end word.End unavailabilities.mid ps rest unavailabilities.left in
    let q_is : curricula_at end (ids_of cs) counts.curricula [] w1.mid ≡ Ok (all_kept qs, curricula.mid) =
    subst (λ (n : ℕ). curricula_at end (ids_of cs) n [] w1.mid ≡ Ok (all_kept qs, curricula.mid)) ok.curricula curricula.is in
    let b_is : unavailabilities_at end (ids_of cs) counts.days counts.periods counts.unavailabilities [] w2.mid ≡ Ok
    (unavailabilities_once bs, unavailabilities.mid) =
    subst (λ (n : ℕ). unavailabilities_at end (ids_of cs) counts.days counts.periods n [] w2.mid ≡ Ok
    (unavailabilities_once bs, unavailabilities.mid)) ok.unavailabilities unavailabilities.is in
    record {
      mid = w3.mid;
      is = bind_is _ w1.mid _ _ w1.is
          (bind_is _ (all_kept qs, curricula.mid) _ _ q_is
          (bind_is _ w2.mid _ _ w2.is (bind_is _ (unavailabilities_once bs, unavailabilities.mid) _ _ b_is
          (bind_is _ w3.mid _ _ w3.is refl))));
      left = w3.left;
    }

-- ---- all sections

-- all sections after the header
abbrev pub section_pieces : List Course → List Room → List Curriculum → List Unavailability → List Piece
section_pieces cs rs qs bs = place_pieces cs rs ++ group_pieces cs qs bs

-- the result of reading the sections
pub record SectionsTaken (counts : Counts) (ts : List Placed) (x : Sections × List Placed) : Type 0 where
  pub curricula : List Curriculum
  pub unavailabilities : List Unavailability
  pub places : ArePlaces counts x.0.courses x.0.rooms
  pub groups : AreGroups counts x.0.courses curricula unavailabilities
  pub curricula_kept : x.0.curricula ≡ all_kept curricula
  pub unavailabilities_kept : x.0.unavailabilities ≡ unavailabilities_once unavailabilities
  pub takes : Takes ts (section_pieces x.0.courses x.0.rooms curricula unavailabilities) x.1

-- sections that were read are spelled
pub sections_take : (end : ℕ) (counts : Counts) (ts : List Placed) (x : Sections × List Placed) → 0 < counts.days → 0 < counts.periods
    → sections_at end counts ts ≡ Ok x → SectionsTaken counts ts x
unfolding sections_at
sections_take end counts ts x some_day some_period e =
    let places = bind_ok (places_at end counts ts) _ x e in
    let groups = bind_ok (groups_at end counts (ids_of places.0.0.0) places.0.1) _ x places.2 in
    let p = places_take end counts ts places.0 places.1 in
    let g = groups_take end counts places.0.0.0 places.0.1 groups.0 some_day some_period groups.1 in
    let made : Sections = record {
      courses = places.0.0.0;
      rooms = places.0.0.1;
      curricula = groups.0.0.0;
      unavailabilities = groups.0.0.1;
    } in
    subst (SectionsTaken counts ts) (ok_is (made, groups.0.1) x groups.2) (record {
      curricula = g.curricula;
      unavailabilities = g.unavailabilities;
      places = p.1;
      groups = g.are;
      curricula_kept = g.curricula_kept;
      unavailabilities_kept = g.unavailabilities_kept;
      takes = takes_then _ _ _ _ _ p.0 g.takes;
    })

-- sections that are spelled are read
pub sections_read : (end : ℕ) (counts : Counts) (ts : List Placed) (cs : List Course) (rs : List Room) (qs : List Curriculum)
    (bs : List Unavailability) (ps : List Piece) (rest : List Placed)
    → ArePlaces counts cs rs → AreGroups counts cs qs bs → Begins (section_pieces cs rs qs bs ++ ps) ts rest
    → ReadsOn (sections_at end counts ts)
    (record { courses = cs; rooms = rs; curricula = all_kept qs; unavailabilities = unavailabilities_once bs }) ps rest
unfolding sections_at
sections_read end counts ts cs rs qs bs ps rest places_ok groups_ok h =
    let grouped : section_pieces cs rs qs bs ++ ps ≡ place_pieces cs rs ++ (group_pieces cs qs bs ++ ps) =
    append_assoc (place_pieces cs rs) (group_pieces cs qs bs) ps in
    let places = places_read end counts ts cs rs (group_pieces cs qs bs ++ ps) rest places_ok
    (subst (λ (l : List Piece). Begins l ts rest) grouped h) in
    let groups = groups_read end counts cs places.mid qs bs ps rest places_ok.all_courses.names groups_ok places.left in
    record {
      mid = groups.mid;
      is = bind_is _ ((cs, rs), places.mid) _ _ places.is
          (bind_is _ ((all_kept qs, unavailabilities_once bs), groups.mid) _ _ groups.is refl);
      left = groups.left;
    }

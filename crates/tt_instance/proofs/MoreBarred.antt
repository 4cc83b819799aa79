-- An instance with more unavailabilities.
use Rattle.std.proofs.Common.{◌≡◌, ◌≤◌, ◌+◌, Bool, true, not, List, ◌++◌, length, arith}
use Rattle.std.specs.Prelude.{All}
use Rattle.std.proofs.lemmas.List.{length-map, length-append}
use Rattle.std.proofs.lemmas.List.Elements.{All-append, All-weaker}
use Rattle.tt_list_laws.specs.Words.{each_two}
use Rattle.tt_instance.specs.Problem.{Unavailability, Problem}
use Rattle.tt_instance.specs.Barring.{IsUnavailabilityOf, with_unavailabilities}
use Rattle.tt_instance.specs.Limits.{IsInstance, same_unavailability}
use Rattle.tt_instance.specs.Seen.{course_seen, problem_seen}
use Rattle.tt_instance.specs.Inner.Indexed.{IsIndexedParts, IsInWeek, IsExcluding}
use Rattle.tt_instance.specs.declared.limit.TheConstants.{MAX_UNAVAILABILITIES}
use Rattle.tt_instance.specs.declared.parts.Parts.{Parts}

-- the unavailabilities have their places in the marks
pub in_marks : (a : Parts) → IsInstance (problem_seen a) → IsIndexedParts a → (bs : List Unavailability)
    → All (IsUnavailabilityOf (problem_seen a)) bs → All (IsInWeek (length a.unavailabilities.marks.items) a.days) bs
in_marks a ok indexed bs all =
    let seen = length-map a.courses.rows.items course_seen in
    All-weaker (IsUnavailabilityOf (problem_seen a)) (IsInWeek (length a.unavailabilities.marks.items) a.days)
    (λ b u. (omega (arith, u.0, seen, indexed.unavailabilities.len), u.1, omega (arith, u.2, ok.within.periods))) bs all

-- it is within the limits
pub barred_instance : (p : Problem) (bs : List Unavailability) → IsInstance p → length p.unavailabilities + length bs ≤ MAX_UNAVAILABILITIES
    → All (IsUnavailabilityOf p) bs → each_two (λ a b. not (same_unavailability a b)) (p.unavailabilities ++ bs) ≡ true
    → IsInstance (with_unavailabilities p (p.unavailabilities ++ bs))
barred_instance p bs ok within inside once = record {
  within = record {
    name = ok.within.name;
    courses = ok.within.courses;
    rooms = ok.within.rooms;
    some_day = ok.within.some_day;
    days = ok.within.days;
    some_period = ok.within.some_period;
    periods = ok.within.periods;
    slots = ok.within.slots;
    cells = ok.within.cells;
    curricula = ok.within.curricula;
    unavailabilities = omega (arith, within, length-append p.unavailabilities bs);
    course_names = ok.within.course_names;
    room_names = ok.within.room_names;
    curriculum_names = ok.within.curriculum_names;
    lectures = ok.within.lectures;
    each_course = ok.within.each_course;
    each_room = ok.within.each_room;
    each_curriculum = ok.within.each_curriculum;
    each_unavailability = All-append (IsUnavailabilityOf p) p.unavailabilities bs ok.within.each_unavailability inside;
  };
  members_once = ok.members_once;
  unavailabilities_once = once;
  name_tokens = ok.name_tokens;
  course_tokens = ok.course_tokens;
  room_tokens = ok.room_tokens;
  curriculum_tokens = ok.curriculum_tokens;
}

-- the same courses conflict
pub still_excluding : (p : Problem) (bs : List Unavailability) (rows : List (List Bool)) → IsExcluding p rows
    → IsExcluding (with_unavailabilities p bs) rows
still_excluding p bs rows e = record { len = e.len; square = e.square; agrees = e.agrees }

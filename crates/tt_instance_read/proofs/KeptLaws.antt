-- An instance without repeats: within the limits, and each member and each unavailability once.
use Rattle.std.proofs.Common.{◌≡◌, ◌≢◌, ℕ, ◌<◌, true, not, List, length, get_or, sym, ap, ◌∙◌, arith}
use Rattle.std.specs.Prelude.{◌==◌, All, AllPairs}
use Rattle.std.proofs.lemmas.List.{length-map, get_or-map}
use Rattle.std.proofs.lemmas.List.Elements.{All-map, All-weaker}
use Rattle.tt_list_laws.specs.Words.{each_two}
use Rattle.tt_list_laws.proofs.Distinct.{All-distinct, length-distinct, each_two-distinct}
use Rattle.tt_instance.specs.Problem.{Curriculum, Problem}
use Rattle.tt_instance.specs.Limits.{same_unavailability, IsWithinLimits}
use Rattle.tt_instance.specs.Spelling.{without_repeated_members, without_repeats}
use Rattle.tt_instance.proofs.Each.{IsCurriculum, IsUnavailability}
use Rattle.tt_instance_read.proofs.CurriculumLaws.{all_kept}

-- a curriculum without repeated members is within the limits, too
curriculum_within : (courses : ℕ) (q : Curriculum) → IsCurriculum courses q → IsCurriculum courses (without_repeated_members q)
curriculum_within courses q is =
    (omega (arith, length-distinct (λ a b. a == b) q.members, is.0), All-distinct (λ a b. a == b) (λ c. c < courses) q.members is.1)

-- curricula without repeated members preserve their names
names_apart : (qs : List Curriculum) → AllPairs (λ q r. q.id ≢ r.id) qs → AllPairs (λ q r. q.id ≢ r.id) (all_kept qs)
names_apart qs apart = λ i j d below l same.
    let in_list : j < length qs = omega (arith, l, length-map qs without_repeated_members) in
    let one = get_or-map without_repeated_members qs i d d (omega (arith, below, in_list)) in
    let other = get_or-map without_repeated_members qs j d d in_list in
    let name : Curriculum → List ℕ = λ q. q.id in
    apart i j d below in_list (sym (ap name one) ∙ same ∙ ap name other)

-- an instance within the limits is within them without its repeats, too
pub kept_within : (w : Problem) → IsWithinLimits w → IsWithinLimits (without_repeats w)
kept_within w within = let Is : Curriculum → Type 0 = IsCurriculum (length w.courses) in record {
  name = within.name;
  courses = within.courses;
  rooms = within.rooms;
  some_day = within.some_day;
  days = within.days;
  some_period = within.some_period;
  periods = within.periods;
  slots = within.slots;
  cells = within.cells;
  curricula = omega (arith, length-map w.curricula without_repeated_members, within.curricula);
  unavailabilities = omega (arith, length-distinct same_unavailability w.unavailabilities, within.unavailabilities);
  course_names = within.course_names;
  room_names = within.room_names;
  curriculum_names = names_apart w.curricula within.curriculum_names;
  lectures = within.lectures;
  each_course = within.each_course;
  each_room = within.each_room;
  each_curriculum = All-map Is without_repeated_members w.curricula
      (All-weaker Is (λ q. Is (without_repeated_members q)) (curriculum_within (length w.courses)) w.curricula within.each_curriculum);
  each_unavailability = All-distinct same_unavailability (IsUnavailability (length w.courses) w.days w.periods) w.unavailabilities
      within.each_unavailability;
}

-- each member of a curriculum occurs once
abbrev pub HasOnce : Curriculum → Type 0
HasOnce q = each_two (λ a b. not (a == b)) q.members ≡ true

-- curricula without repeated members have each member once
pub members_once : (qs : List Curriculum) → All HasOnce (all_kept qs)
members_once qs = All-map HasOnce without_repeated_members qs (λ k d _. each_two-distinct (λ a b. a == b) (get_or qs k d).members)

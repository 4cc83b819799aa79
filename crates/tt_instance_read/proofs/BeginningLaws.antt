-- Each part of the reader of an instance, compared with itself over other tokens.
use Rattle.std.proofs.Common.{◌≡◌, ◌≢◌, ℕ, zero, suc, ◌-◌, ◌*◌, Bool, true, false, cond, List, [], ◌∷◌, ◌++◌, length, Option, Some, None, Result, Ok, Err, refl, sym, ◌∙◌}
use Rattle.std.specs.Prelude.{◌==◌, nat_lt, Any}
use Rattle.tt_text.specs.Tokens.{Placed, tokens_of}
use Rattle.tt_text.specs.Texts.{is_text}
use Rattle.tt_text.specs.Numbers.{number_of}
use Rattle.tt_text.specs.Reading.{◌>>=◌}
use Rattle.tt_text.specs.declared.numbers.NumberFault.{NumberFault}
use Rattle.tt_text.specs.declared.numbers.NumberFault.TheVariants as number
use Rattle.tt_instance_read.specs.declared.fault.Word.{Word}
use Rattle.tt_instance_read.specs.declared.fault.Word.TheVariants as word
use Rattle.tt_instance_read.specs.declared.fault.InstanceFault.{InstanceFault}
use Rattle.tt_instance_read.specs.declared.fault.InstanceFault.TheVariants as fault
use Rattle.tt_instance.specs.declared.limit.TheConstants.{MAX_DAYS, MAX_PERIODS, MAX_SLOTS, MAX_CELLS}
use Rattle.tt_instance_read.specs.Words.{word_text}
use Rattle.tt_instance.specs.Beginnings.{BeginsAs}
use Rattle.tt_instance_read.specs.Beginnings.{token_offset}
use Rattle.tt_instance.specs.Problem.{Course, Room, Curriculum, Unavailability, Problem}
use Rattle.tt_instance.specs.Columns.{ids_of}
use Rattle.tt_instance_read.specs.Reading.{Counts, word_at, numbered, ranged, known, limited_at, below_at, course_at, courses_at, room_at, rooms_at, named_at, member_at, members_at, curriculum_at, curricula_at, unavailability_at, unavailabilities_at, name_at, counted_at, days_at, periods_at, header_at, places_at, groups_at, sections_at, instance_of}
use Rattle.tt_instance.specs.Spelling.{Spells}
use Rattle.tt_instance.proofs.Beginnings.{begins_shared, fault_at_token, fault_of_all}
use Rattle.tt_instance_read.proofs.WholeLaws.{is_read}
use Rattle.tt_instance.proofs.Shared.{NoneAt, Shared, Apart, Next, Stays, Joins, NoneLeft, SharedLeft, other_offset, stays_joins, ok_joins, ReadsAlike, SkipsAlike, EndsAlike, SameVerdict, ok_reads, ok_skips, ok_ends, on_condition, then_reads, then_skips, err_reads, if_reads, then_verdict, then_token}

-- the verdict on a name that must be new
abbrev new_test : ℕ → Bool → Result (Unit {0}) InstanceFault
new_test at old = cond old (Err (fault.Repeated at)) (Ok tt)

module _ (at end other : ℕ) where
  -- a reader of a text that ends at `end`, and of another that ends at `other`
  abbrev Reads : {X : Type 0} → (ℕ → List Placed → Result (X × List Placed) InstanceFault) → Type 0
  Reads f = ReadsAlike token_offset at (Unit {0}) (f end) (f other)

  -- a reader that returns only the tokens that are left
  abbrev Skips : (ℕ → List Placed → Result (List Placed) InstanceFault) → Type 0
  Skips f = SkipsAlike token_offset at (Unit {0}) (f end) (f other)

  -- ---- single tokens

  -- a fixed word
  word_alike : (w : Word) → Skips (λ e. word_at e w)
  unfolding word_at
  word_alike w = then_token _ _ _ _ refl (λ t n. if_reads (is_text (word_text w) t.text) ok_skips (err_reads _ _ (other_offset at t.at)))

  -- the verdicts on a number up to a limit
  numbered_same : (t : Placed) (n : ℕ) (r : Result ℕ NumberFault) → SameVerdict token_offset at (t.at ≢ at) (numbered t.at r) (numbered n r)
  numbered_same t n (Ok v) = refl
  numbered_same t n (Err number.NotANumber) = (other_offset at t.at, λ v e. cc)
  numbered_same t n (Err number.TooLarge) = (other_offset at t.at, λ v e. cc)

  -- the verdicts on a number below a bound
  ranged_same : (t : Placed) (n : ℕ) (r : Result ℕ NumberFault) → SameVerdict token_offset at (t.at ≢ at) (ranged t.at r) (ranged n r)
  ranged_same t n (Ok v) = refl
  ranged_same t n (Err number.NotANumber) = (other_offset at t.at, λ v e. cc)
  ranged_same t n (Err number.TooLarge) = (other_offset at t.at, λ v e. cc)

  -- a number up to a limit
  limited_alike : (limit : ℕ) → Reads (λ e. limited_at e limit)
  unfolding limited_at
  limited_alike limit = then_token _ _ _ _ refl (λ t n. then_verdict _ _ _ _ (numbered_same t n (number_of limit t.text)) (λ v. ok_reads v))

  -- a number below a bound
  below_alike : (bound : ℕ) → Reads (λ e. below_at e bound)
  unfolding below_at
  below_alike bound = then_token _ _ _ _ refl (λ t n. then_verdict _ _ _ _ (ranged_same t n (number_of (bound - 1) t.text))
      (λ v. ok_reads v))

  -- the verdicts on a name that must be new
  new_test_same : (t : Placed) (n : ℕ) (old : Bool) → SameVerdict token_offset at (t.at ≢ at) (new_test t.at old) (new_test n old)
  new_test_same t n true = (other_offset at t.at, λ v e. cc)
  new_test_same t n false = refl

  -- the verdicts on the name of a course
  known_same : (t : Placed) (n : ℕ) (course : Option ℕ) → SameVerdict token_offset at (t.at ≢ at) (known t.at course) (known n course)
  known_same t n None = (other_offset at t.at, λ v e. cc)
  known_same t n (Some i) = refl

  -- ---- courses and rooms

  -- another course
  course_alike : (before : List Course) → Reads (λ e. course_at e before)
  unfolding course_at
  course_alike before =
      then_token _ _ _ _ refl (λ id n. then_verdict _ _ _ _ (new_test_same id n _) (λ new. then_token _ _ _ _ refl (λ teacher m.
      then_reads _ _ (on_condition (limited_alike _))
      (λ lectures. then_reads _ _ (limited_alike _) (λ min_days. then_reads _ _ (limited_alike _) (λ students. ok_reads _))))))

  -- this many more courses
  courses_alike : (n : ℕ) (before : List Course) → Reads (λ e. courses_at e n before)
  unfolding courses_at
  courses_alike zero before = ok_reads before
  courses_alike (suc n) before = then_reads _ _ (course_alike before) (λ more. courses_alike n more)

  -- another room
  room_alike : (before : List Room) → Reads (λ e. room_at e before)
  unfolding room_at
  room_alike before =
      then_token _ _ _ _ refl
      (λ id n. then_verdict _ _ _ _ (new_test_same id n _)
      (λ new. then_reads _ _ (on_condition (limited_alike _)) (λ capacity. ok_reads _)))

  -- this many more rooms
  rooms_alike : (n : ℕ) (before : List Room) → Reads (λ e. rooms_at e n before)
  unfolding rooms_at
  rooms_alike zero before = ok_reads before
  rooms_alike (suc n) before = then_reads _ _ (room_alike before) (λ more. rooms_alike n more)

  -- ---- curricula and unavailabilities

  -- a course by its name
  named_alike : (ids : List (List ℕ)) → Reads (λ e. named_at e ids)
  unfolding named_at
  named_alike ids = then_token _ _ _ _ refl (λ t n. then_verdict _ _ _ _ (known_same t n _) (λ i. ok_reads i))

  -- another member
  member_alike : (ids : List (List ℕ)) (before : List ℕ) → Reads (λ e. member_at e ids before)
  unfolding member_at
  member_alike ids before = then_reads _ _ (named_alike ids) (λ c. ok_reads _)

  -- this many more members
  members_alike : (ids : List (List ℕ)) (n : ℕ) (before : List ℕ) → Reads (λ e. members_at e ids n before)
  unfolding members_at
  members_alike ids zero before = ok_reads before
  members_alike ids (suc n) before = then_reads _ _ (member_alike ids before) (λ more. members_alike ids n more)

  -- another curriculum
  curriculum_alike : (ids : List (List ℕ)) (before : List Curriculum) → Reads (λ e. curriculum_at e ids before)
  unfolding curriculum_at
  curriculum_alike ids before =
      then_token _ _ _ _ refl (λ id n. then_verdict _ _ _ _ (new_test_same id n _) (λ new.
      then_reads _ _ (on_condition (limited_alike _)) (λ count. then_reads _ _ (members_alike ids count []) (λ members. ok_reads _))))

  -- this many more curricula
  curricula_alike : (ids : List (List ℕ)) (n : ℕ) (before : List Curriculum) → Reads (λ e. curricula_at e ids n before)
  unfolding curricula_at
  curricula_alike ids zero before = ok_reads before
  curricula_alike ids (suc n) before = then_reads _ _ (curriculum_alike ids before) (λ more. curricula_alike ids n more)

  -- another unavailability
  unavailability_alike : (ids : List (List ℕ)) (days periods : ℕ) (before : List Unavailability)
      → Reads (λ e. unavailability_at e ids days periods before)
  unfolding unavailability_at
  unavailability_alike ids days periods before =
      then_reads _ _ (named_alike ids)
      (λ course. then_reads _ _ (below_alike days) (λ day. then_reads _ _ (below_alike periods) (λ period. ok_reads _)))

  -- this many more unavailabilities
  unavailabilities_alike : (ids : List (List ℕ)) (days periods n : ℕ) (before : List Unavailability)
      → Reads (λ e. unavailabilities_at e ids days periods n before)
  unfolding unavailabilities_at
  unavailabilities_alike ids days periods zero before = ok_reads before
  unavailabilities_alike ids days periods (suc n) before = then_reads _ _ (unavailability_alike ids days periods before)
      (λ more. unavailabilities_alike ids days periods n more)

  -- ---- the name and the header

  -- the name ends here, or goes on
  name_test_stays : (before : List (List ℕ)) (ts : List Placed) (last : Bool)
      (more : Result (List (List ℕ) × List Placed) InstanceFault) → NoneAt at ts
      → Stays token_offset at (NoneLeft token_offset at) more → Stays token_offset at (NoneLeft token_offset at)
      (cond last (Ok (before, ts)) more)
  name_test_stays before ts true more none stays = none
  name_test_stays before ts false more none stays = stays

  -- reading a name whose tokens are not at the offset of the fault
  name_stays : (before : List (List ℕ)) (ts : List Placed) → NoneAt at ts → Stays token_offset at (NoneLeft token_offset at)
      (name_at end before ts)
  unfolding name_at
  name_stays before [] none = λ e. cc
  name_stays before (t ∷ ts) none = name_test_stays before ts (is_text (word_text word.Courses) t.text) _ none.1
      (name_stays (before ++ t.text ∷ []) ts none.1)

  -- the name ends here in both, or goes on in both
  name_test_joins : (before : List (List ℕ)) (ts us : List Placed) (last : Bool)
      (more also : Result (List (List ℕ) × List Placed) InstanceFault) → Shared at ts us
      → Joins token_offset at (NoneLeft token_offset at) (SharedLeft token_offset at) more also
      → Joins token_offset at (NoneLeft token_offset at) (SharedLeft token_offset at) (cond last (Ok (before, ts)) more)
      (cond last (Ok (before, us)) also)
  name_test_joins before ts us true more also shared joins = ok_joins token_offset at before ts us shared
  name_test_joins before ts us false more also shared joins = joins

  -- the name, from tokens that both texts share
  name_joins : (before : List (List ℕ)) (ts us : List Placed) → Shared at ts us
      → Joins token_offset at (NoneLeft token_offset at) (SharedLeft token_offset at) (name_at end before ts) (name_at other before us)
  unfolding name_at
  name_joins before ts us (Apart none) = stays_joins token_offset at (NoneLeft token_offset at) (SharedLeft token_offset at) _ _
      (name_stays before ts none)
  name_joins before ts us (Next {t} {ts = rest} {us = others} n shared) =
      name_test_joins before rest others (is_text (word_text word.Courses) t.text) _ _ shared
      (name_joins (before ++ t.text ∷ []) rest others shared)

  -- the name
  name_alike : (before : List (List ℕ)) → Reads (λ e. name_at e before)
  name_alike before = record { stays = λ c ts none. name_stays before ts none; joins = name_joins before }

  -- a fixed word, and a number up to a limit
  counted_alike : (w : Word) (limit : ℕ) → Reads (λ e. counted_at e w limit)
  unfolding counted_at
  counted_alike w limit = then_skips _ _ (word_alike w) (limited_alike limit)

  -- the days
  days_alike : Reads days_at
  unfolding days_at
  days_alike =
      then_skips _ _ (word_alike word.Days)
      (then_token _ _ _ _ refl (λ t n. then_verdict _ _ _ _ (numbered_same t n (number_of MAX_DAYS t.text))
      (λ v. if_reads _ (err_reads _ _ (other_offset at t.at)) (ok_reads v))))

  -- the periods of a day
  periods_alike : (pairs days : ℕ) → Reads (λ e. periods_at e pairs days)
  unfolding periods_at
  periods_alike pairs days =
      then_skips _ _ (word_alike word.PeriodsPerDay)
      (then_token _ _ _ _ refl (λ t n. then_verdict _ _ _ _ (numbered_same t n (number_of MAX_PERIODS t.text)) (λ v.
      if_reads (nat_lt MAX_SLOTS (days * v)) (err_reads (fault.OverLimit t.at) (fault.OverLimit n) (other_offset at t.at))
      (if_reads (nat_lt MAX_CELLS (pairs * (days * v))) (err_reads (fault.OverLimit t.at) (fault.OverLimit n) (other_offset at t.at))
      (if_reads (v == 0) (err_reads (fault.OutOfRange t.at) (fault.OutOfRange n) (other_offset at t.at)) (ok_reads v))))))

  -- the header after the word that ends the name
  header_alike : Reads header_at
  unfolding header_at
  header_alike =
      then_reads _ _ (limited_alike _)
      (λ courses. then_reads _ _ (counted_alike word.Rooms _)
      (λ rooms. then_reads _ _ days_alike (λ days. then_reads _ _ (periods_alike _ days) (λ periods.
      then_reads _ _ (counted_alike word.Curricula _)
      (λ curricula. then_reads _ _ (counted_alike word.Constraints _) (λ unavailabilities. ok_reads _))))))

  -- -- the sections, and the whole instance

  -- the courses and the rooms
  places_alike : (counts : Counts) → Reads (λ e. places_at e counts)
  unfolding places_at
  places_alike counts =
      then_skips _ _ (word_alike word.CoursesPart) (then_reads _ _ (courses_alike counts.courses []) (λ courses.
      then_skips _ _ (word_alike word.RoomsPart) (then_reads _ _ (rooms_alike counts.rooms []) (λ rooms. ok_reads _))))

  -- the curricula and unavailabilities, up to the end
  groups_alike : (counts : Counts) (ids : List (List ℕ)) → Reads (λ e. groups_at e counts ids)
  unfolding groups_at
  groups_alike counts ids =
      then_skips _ _ (word_alike word.CurriculaPart) (then_reads _ _ (curricula_alike ids counts.curricula []) (λ curricula.
      then_skips _ _ (word_alike word.UnavailabilityPart)
      (then_reads _ _ (unavailabilities_alike ids counts.days counts.periods counts.unavailabilities []) (λ unavailabilities.
      then_skips _ _ (word_alike word.End) (ok_reads _)))))

  -- all sections after the header
  sections_alike : (counts : Counts) → Reads (λ e. sections_at e counts)
  unfolding sections_at
  sections_alike counts = then_reads _ _ (places_alike counts)
      (λ places. then_reads _ _ (groups_alike counts (ids_of places.0)) (λ groups. ok_reads _))

-- the instance of these tokens, for a text that ends at this offset
abbrev pub instance_from : ℕ → List Placed → Result Problem InstanceFault
instance_from end ts =
    word_at end word.Name ts >>= λ ts1.
    name_at end [] ts1 >>= λ name.
    header_at end name.1 >>= λ header.
    sections_at end header.0 header.1 >>= λ sections.
    Ok (record {
      name = name.0;
      days = header.0.days;
      periods = header.0.periods;
      courses = sections.0.courses;
      rooms = sections.0.rooms;
      curricula = sections.0.curricula;
      unavailabilities = sections.0.unavailabilities;
    })

-- the whole instance
pub instance_alike : (at end other : ℕ) → EndsAlike token_offset at (Unit {0}) (instance_from end) (instance_from other)
instance_alike at end other =
    then_skips _ _ (word_alike at end other word.Name) (then_reads _ _ (name_alike at end other []) (λ name.
    then_reads _ _ (header_alike at end other) (λ header. then_reads _ _ (sections_alike at end other header) (λ sections. ok_ends _ _))))

-- an instance is read from the tokens of its bytes
pub read_from : (bytes : List ℕ) → instance_of bytes ≡ instance_from (length bytes) (tokens_of bytes)
unfolding instance_of
read_from bytes = refl

-- -- the meaning of a fault at a token

-- a token of the bytes begins at the offset of the fault
pub fault_stands : (bytes : List ℕ) (e : InstanceFault) (at : ℕ) → instance_of bytes ≡ Err e → token_offset e ≡ Some at
    → Any (λ t. t.at ≡ at) (tokens_of bytes)
fault_stands bytes e at failed offset_of =
    let end : ℕ = length bytes in
    fault_at_token token_offset at (instance_from end) (instance_from end) (instance_alike at end end) (tokens_of bytes) e
    (sym (read_from bytes) ∙ failed) offset_of

-- bytes that begin the same way spell no instance
pub fault_stays : (bytes other : List ℕ) (e : InstanceFault) (at : ℕ) → instance_of bytes ≡ Err e → token_offset e ≡ Some at
    → BeginsAs at bytes other → (p : Problem) → ¬ Spells other p
fault_stays bytes other e at failed offset_of begins p spelled =
    let end : ℕ = length bytes in
    fault_of_all token_offset at (instance_from end) (instance_from (length other)) (instance_alike at end (length other))
    (tokens_of bytes) e (sym (read_from bytes) ∙ failed) offset_of
    (tokens_of other) (begins_shared at bytes other begins) p (sym (read_from other) ∙ is_read other p spelled)

-- The table of the facts on the path.
use Rattle.std.specs.Prelude.{◌≡◌, ℕ, ◌+◌, ◌*◌, ◌/◌, ◌%◌, nat_lt, Bool, true, false, ◌&&◌, ◌||◌, if◌then◌else◌, List, length, Option, Some, None, filter}
use Rattle.tt_instance.specs.Problem.{Problem}
use Rattle.tt_path.specs.Facts.{same_answer, same_pattern, has_fact}
use Rattle.tt_path.specs.declared.facts.Who.{Who}
use Rattle.tt_path.specs.declared.facts.Who.TheVariants.{Course, Curriculum}
use Rattle.tt_path.specs.declared.facts.Pattern.{Pattern}
use Rattle.tt_path.specs.declared.facts.Fact.{Fact}
use Rattle.tt_path_pins.specs.declared.bit_places.BitPlace.{BitPlace}
use Rattle.tt_path_pins.specs.Inner.Sets.{has_at}
use Rattle.tt_path_pins.specs.Inner.Tables.{width}

-- -- the place of a fact that gives a course, a day and a period in range, and no room or a room in range

-- A row for the no-facts of each course, and then a row for the yes-facts of each course.
abbrev pub fact_row : Problem → Bool → ℕ → ℕ
fact_row p holds c = (if holds then length p.courses else 0) + c

-- The number of rows, two for each course.
abbrev pub fact_rows : Problem → ℕ
fact_rows p = length p.courses + length p.courses

-- The place of a fact without a room.
abbrev pub open_place : Problem → Bool → ℕ → ℕ → ℕ
open_place p holds c d = fact_row p holds c * p.days + d

-- The number of words for facts without a room.
abbrev pub open_size : Problem → ℕ
open_size p = fact_rows p * p.days

-- The row of a fact with a room.
abbrev pub slot_row : Problem → Bool → ℕ → ℕ → ℕ → ℕ
slot_row p holds c d s = open_place p holds c d * p.periods + s

-- The number of rows for facts with a room.
abbrev pub slot_rows : Problem → ℕ
slot_rows p = open_size p * p.periods

-- The place of a fact with a room.
abbrev pub closed_place : Problem → Bool → ℕ → ℕ → ℕ → ℕ → ℕ
closed_place p holds c d s r = open_size p + (slot_row p holds c d s * width p + r / 64)

-- The number of words of the table of facts.
abbrev pub fact_table_size : Problem → ℕ
fact_table_size p = open_size p + slot_rows p * width p

-- The place and the bit of a fact about a course in a period; none if its room is out of range.
abbrev pub bit_place_in : Problem → Bool → ℕ → ℕ → ℕ → Option ℕ → Option BitPlace
bit_place_in p holds c d s None = Some (record { place = open_place p holds c d; number = s })
bit_place_in p holds c d s (Some r) =
    if nat_lt r (length p.rooms) then Some (record { place = closed_place p holds c d s r; number = r % 64 }) else None

-- The place and the bit of a fact; none unless it gives a course, a day and a period, and all numbers that it gives are in range.
abbrev pub bit_place_of : Problem → Bool → Who → Option ℕ → Option ℕ → Option ℕ → Option BitPlace
bit_place_of p holds (Curriculum q) room day period = None
bit_place_of p holds (Course c) room None period = None
bit_place_of p holds (Course c) room (Some d) None = None
bit_place_of p holds (Course c) room (Some d) (Some s) =
    if nat_lt c (length p.courses) && nat_lt d p.days && nat_lt s p.periods then bit_place_in p holds c d s room else None

-- The place and the bit of the fact with this pattern, a yes-fact or a no-fact, if it has a place.
abbrev pub bit_place_at : Problem → Pattern → Bool → Option BitPlace
bit_place_at p g holds = bit_place_of p holds g.who g.room g.day g.period

-- There is no place.
abbrev pub is_nowhere : Option BitPlace → Bool
is_nowhere None = true
is_nowhere (Some x) = false

-- The facts that have no place in the table.
abbrev pub unplaced_of : Problem → List Fact → List Fact
unplaced_of p facts = filter (λ f. is_nowhere (bit_place_at p f.pattern f.holds)) facts

-- -- the meaning of the words

-- The words have exactly these facts, of the facts that have a place.
pub record ShowsFacts (p : Problem) (facts : List Fact) (words : List ℕ) : Type 0 where
  pub len : length words ≡ fact_table_size p
  pub each : (g : Pattern) (holds : Bool) (x : BitPlace) → bit_place_at p g holds ≡ Some x →
      has_at words x.place x.number ≡ has_fact facts g holds

-- The fact is this one.
abbrev pub is_fact : Pattern → Bool → Fact → Bool
is_fact g holds f = same_answer f.holds holds && same_pattern f.pattern g

-- Another fact has been added.
pub record AddsFact (p : Problem) (f : Fact) (old new : List ℕ) : Type 0 where
  pub len : length new ≡ length old
  pub each : (g : Pattern) (holds : Bool) (x : BitPlace) → bit_place_at p g holds ≡ Some x →
      has_at new x.place x.number ≡ (has_at old x.place x.number || is_fact g holds f)

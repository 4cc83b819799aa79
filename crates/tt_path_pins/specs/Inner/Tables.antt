-- The table of pinned periods and rooms.
use Rattle.std.specs.Prelude.{◌≡◌, ℕ, ◌+◌, ◌*◌, ◌/◌, ◌%◌, ◌<◌, ◌≤◌, ◌==◌, nat_lt, Bool, ◌&&◌, ◌||◌, List, length, Option}
use Rattle.std.specs.List.{list_any}
use Rattle.tt_instance.specs.Problem.{Problem}
use Rattle.tt_instance.specs.Cells.{slot}
use Rattle.tt_path.specs.Facts.{IsWho}
use Rattle.tt_path.specs.Live.{gives, is_pinned_by, pinned, pinned_room}
use Rattle.tt_path.specs.declared.facts.Who.{Who}
use Rattle.tt_path.specs.declared.facts.Who.TheVariants.{Course, Curriculum}
use Rattle.tt_path.specs.declared.facts.Fact.{Fact}
use Rattle.tt_path_pins.specs.Inner.Sets.{has_at}

-- -- the places of the words: those of the days of each course, of the days of each curriculum, and of the rooms of each course

-- A row for each course, and then a row for each curriculum.
abbrev pub row_of : Problem → Who → ℕ
row_of p (Course c) = c
row_of p (Curriculum q) = length p.courses + q

-- The number of rows, one for each course and one for each curriculum.
abbrev pub rows : Problem → ℕ
rows p = length p.courses + length p.curricula

-- The place of the word of periods of a row's day.
abbrev pub day_place : Problem → ℕ → ℕ → ℕ
day_place p row d = row * p.days + d

-- The number of words for the days.
abbrev pub days_size : Problem → ℕ
days_size p = rows p * p.days

-- The number of words for the rooms of a course.
abbrev pub width : Problem → ℕ
width p = (length p.rooms + 63) / 64

-- The place of the word of 64 rooms.
abbrev pub block_place : Problem → ℕ → ℕ → ℕ
block_place p c b = days_size p + (c * width p + b)

-- The place of the word that has the bit of a room of a course.
abbrev pub room_place : Problem → ℕ → ℕ → ℕ
room_place p c r = block_place p c (r / 64)

-- The number of words of the table of pinned periods and rooms.
abbrev pub size : Problem → ℕ
size p = days_size p + length p.courses * width p

-- -- the meaning of the words

-- The words have exactly the periods and the rooms that these facts pin.
pub record ShowsPins (p : Problem) (facts : List Fact) (words : List ℕ) : Type 0 where
  pub len : length words ≡ size p
  pub periods : (who : Who) (d s : ℕ) → IsWho p who → d < p.days → s < 64 →
      has_at words (day_place p (row_of p who) d) s ≡ (nat_lt s p.periods && pinned p facts who (slot d s))
  pub rooms : (c r : ℕ) → c < length p.courses → r / 64 < width p →
      has_at words (room_place p c r) (r % 64) ≡ (nat_lt r (length p.rooms) && pinned_room p facts c r)

-- ---- steps

-- The number has been added to the sets at the places that pass the test; all other numbers are as before.
pub record Adds (old : List ℕ) (test : ℕ → Bool) (number : ℕ) (new : List ℕ) : Type 0 where
  pub len : length new ≡ length old
  pub each : (i s : ℕ) → s < 64 → has_at new i s ≡ (has_at old i s || (test i && (s == number)))

-- The place is that of the day, for one of these curricula.
abbrev pub is_day_of : Problem → List ℕ → ℕ → ℕ → Bool
is_day_of p curricula d i = list_any (λ q. i == day_place p (length p.courses + q) d) curricula

-- A yes-fact about the second that gives this day and period pins the period for the first.
abbrev pub pins_period : Problem → Who → Option ℕ → Option ℕ → Who → ℕ → ℕ → Bool
pins_period p reported day period who d s = is_pinned_by p who reported && gives day d && gives period s

-- A yes-fact that gives this room pins the room for a course.
abbrev pub pins_room : Problem → Who → Option ℕ → ℕ → ℕ → Bool
pins_room p reported room c r = is_pinned_by p (Course c) reported && gives room r

-- The periods that a yes-fact with this day and this period pins have been added; the words of rooms are as before.
pub record PinsPeriods (p : Problem) (reported : Who) (day period : Option ℕ) (old new : List ℕ) : Type 0 where
  pub len : length new ≡ length old
  pub periods : (who : Who) (d s : ℕ) → IsWho p who → d < p.days → s < 64 →
      has_at new (day_place p (row_of p who) d) s
      ≡ (has_at old (day_place p (row_of p who) d) s || (nat_lt s p.periods && pins_period p reported day period who d s))
  pub others : (i s : ℕ) → days_size p ≤ i → s < 64 → has_at new i s ≡ has_at old i s

-- The rooms that a yes-fact with this room pins have been added; the words of periods are as before.
pub record PinsRooms (p : Problem) (reported : Who) (room : Option ℕ) (old new : List ℕ) : Type 0 where
  pub len : length new ≡ length old
  pub rooms : (c r : ℕ) → c < length p.courses → r / 64 < width p →
      has_at new (room_place p c r) (r % 64)
      ≡ (has_at old (room_place p c r) (r % 64) || (nat_lt r (length p.rooms) && pins_room p reported room c r))
  pub others : (i s : ℕ) → i < days_size p → s < 64 → has_at new i s ≡ has_at old i s

-- Another fact has been added.
pub record Pins (p : Problem) (f : Fact) (old new : List ℕ) : Type 0 where
  pub len : length new ≡ length old
  pub periods : (who : Who) (d s : ℕ) → IsWho p who → d < p.days → s < 64 →
      has_at new (day_place p (row_of p who) d) s
      ≡ (has_at old (day_place p (row_of p who) d) s
      || (f.holds && (nat_lt s p.periods && pins_period p f.pattern.who f.pattern.day f.pattern.period who d s)))
  pub rooms : (c r : ℕ) → c < length p.courses → r / 64 < width p →
      has_at new (room_place p c r) (r % 64)
      ≡ (has_at old (room_place p c r) (r % 64)
      || (f.holds && (nat_lt r (length p.rooms) && pins_room p f.pattern.who f.pattern.room c r)))

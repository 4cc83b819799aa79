-- The layout of a table of cells in words of 64 bits. Only `has_cell` says what a table has. Besides the words of each period of each day a course
-- has words for all periods of each day, for each period on all days, and for all periods: a cell that goes from one of these is gone, once they count.
use Rattle.std.specs.Prelude.{◌≡◌, ℕ, ◌+◌, ◌*◌, ◌/◌, ◌%◌, ◌<◌, ◌==◌, Bool, not, ◌&&◌, ◌||◌, List, length, slice_index_or}
use Rattle.tt_instance.specs.Problem.{Problem}
use Rattle.tt_instance.specs.declared.cell.Cell.{Cell}
use Rattle.tt_bits.specs.Inner.Bits.{has_bit}

-- The number of words for the rooms.
abbrev pub width : Problem → ℕ
width p = (length p.rooms + 63) / 64

-- One bit: a course, a day and a period, and a bit of one of the words of rooms there. The day after the last stands for all days, and the period
-- after the last for all periods.
pub record Bit : Type 0 where
  pub course : ℕ
  pub day : ℕ
  pub period : ℕ
  pub block : ℕ
  pub number : ℕ

-- The bit is one of the table: its course, day, period, block and number are in range.
pub record IsBit (p : Problem) (b : Bit) : Type 0 where
  pub course : b.course < length p.courses
  pub day : b.day < p.days + 1
  pub period : b.period < p.periods + 1
  pub block : b.block < width p
  pub number : b.number < 64

-- The place at which the words of a course in a period begin.
abbrev pub place : Problem → ℕ → ℕ → ℕ → ℕ
place p c d s = ((c * (p.days + 1) + d) * (p.periods + 1) + s) * width p

-- The number of words of rooms; another word follows them.
abbrev pub size : Problem → ℕ
size p = length p.courses * (p.days + 1) * (p.periods + 1) * width p

-- The number of a bit's room, which may be past the last room.
abbrev pub room_of : Bit → ℕ
room_of b = b.block * 64 + b.number

-- The bit of a cell's course and room on a day, in a period.
abbrev pub bit_on : ℕ → ℕ → Cell → Bit
bit_on d s x = record { course = x.course; day = d; period = s; block = x.room / 64; number = x.room % 64 }

-- The bit that represents a cell.
abbrev pub bit_of : Cell → Bit
bit_of x = bit_on x.day x.period x

-- Word w of the rooms for a course in a period, 0 past the end of the table.
abbrev pub word_at : Problem → List ℕ → ℕ → ℕ → ℕ → ℕ → ℕ
word_at p words c d s w = slice_index_or words (place p c d s + w) 0

-- The bit is set in the words.
abbrev pub is_set : Problem → List ℕ → Bit → Bool
is_set p words b = has_bit (word_at p words b.course b.day b.period b.block) b.number

-- The last word is 1 if no bit is in force.
abbrev pub in_force : Problem → List ℕ → Bool
in_force p words = not (slice_index_or words (size p) 0 == 1)

-- It is 0 as long as the words of several periods don't count.
abbrev pub is_plain : Problem → List ℕ → Bool
is_plain p words = slice_index_or words (size p) 0 == 0

-- The bits for all periods of the cell's day, for its period on all days and for all periods are set.
abbrev pub is_kept : Problem → List ℕ → Cell → Bool
is_kept p words x =
    is_set p words (bit_on x.day p.periods x) && (is_set p words (bit_on p.days x.period x) && is_set p words (bit_on p.days p.periods x))

-- The bit is for several periods.
abbrev pub is_wide : Problem → Bit → Bool
is_wide p b = (b.day == p.days) || (b.period == p.periods)

-- The bit belongs to this course in this period of this day.
abbrev pub is_here : ℕ → ℕ → ℕ → Bit → Bool
is_here c d s b = (b.course == c) && (b.day == d) && (b.period == s)

-- Exactly the bits that are gone have been removed.
pub record Drops (p : Problem) (old new : List ℕ) (gone : Bit → Bool) : Type 0 where
  pub len : length new ≡ length old
  pub last : slice_index_or new (size p) 0 ≡ slice_index_or old (size p) 0
  pub bits : (b : Bit) → IsBit p b → is_set p new b ≡ (is_set p old b && not (gone b))

-- Tables of cells.
use Rattle.std.specs.Prelude.{◌≡◌, ℕ, ◌+◌, ◌<◌, ◌≤◌, ◌==◌, Bool, true, false, not, ◌&&◌, ◌||◌, List, length, Option}
use Rattle.tt_instance.specs.Problem.{Problem}
use Rattle.tt_instance.specs.Cells.{slot, cell, InRange}
use Rattle.tt_instance.specs.declared.cell.Cell.{Cell}
use Rattle.tt_path.specs.Facts.{agrees}
use Rattle.tt_path_tables.specs.Inner.Words.{Bit, IsBit, size, room_of, bit_of, is_set, in_force, is_plain, is_kept, is_wide}

-- The table has the cell.
unfoldable pub has_cell : Problem → List ℕ → Cell → Bool
has_cell p words x = in_force p words && is_set p words (bit_of x) && (is_plain p words || is_kept p words x)

-- The words are a table: no bit is set for a room that is out of range, and the bits of several periods are set as long as they don't count.
pub record IsTable (p : Problem) (words : List ℕ) : Type 0 where
  pub len : length words ≡ size p + 1
  pub spare : (b : Bit) → IsBit p b → length p.rooms ≤ room_of b → is_set p words b ≡ false
  pub plain : is_plain p words ≡ true → (b : Bit) → IsBit p b → is_wide p b ≡ true → room_of b < length p.rooms → is_set p words b ≡ true

-- The words are a table, and it has exactly the cells of the instance that pass the test.
pub record Shows (p : Problem) (test : Cell → Bool) (words : List ℕ) : Type 0 where
  pub table : IsTable p words
  pub cells : (x : Cell) → InRange p x → has_cell p words x ≡ test x

-- The new table has all cells of the old one except those that are gone.
pub record Loses (p : Problem) (old : List ℕ) (gone : Cell → Bool) (new : List ℕ) : Type 0 where
  pub table : IsTable p new
  pub cells : (x : Cell) → InRange p x → has_cell p new x ≡ (has_cell p old x && not (gone x))

-- The new table has the cells of the old one, and its words of several periods count.
pub record Widens (p : Problem) (old new : List ℕ) : Type 0 where
  pub table : IsTable p new
  pub wide : is_plain p new ≡ false
  pub cells : (x : Cell) → InRange p x → has_cell p new x ≡ has_cell p old x

-- A cell of the course in the period.
abbrev pub is_placed : ℕ → ℕ → ℕ → Cell → Bool
is_placed c d s x = (x.course == c) && (x.day == d) && (x.period == s)

-- The table has the course's cell in this room, and the room is the given one, if one is given.
abbrev pub is_open : Problem → List ℕ → Option ℕ → ℕ → ℕ → ℕ → ℕ → Bool
is_open p words room c d s r = has_cell p words (cell c r (slot d s)) && agrees room r

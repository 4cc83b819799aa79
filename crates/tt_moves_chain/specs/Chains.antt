-- Kempe chains: the entries of two periods that have to move together.
use Rattle.std.specs.Prelude.{◌≡◌, ℕ, ◌+◌, ◌<◌, ◌==◌, Bool, true, false, ◌&&◌, ◌||◌, List, [], ◌∷◌, length, slice_index_or, Contains, if◌then◌else◌}
use Rattle.tt_list_laws.specs.Words.{has_number}
use Rattle.tt_instance.specs.Problem.{Problem}
use Rattle.tt_instance.specs.Cells.{is_at}
use Rattle.tt_instance.specs.Courses.{conflict, unavailable}
use Rattle.tt_instance.specs.declared.cell.Cell.{Cell}
use Rattle.tt_instance.specs.declared.cell.Slot.{Slot}

-- entries of two periods that change periods together, by their numbers
pub record Kempe : Type 0 where
  pub from : Slot
  pub to : Slot
  pub members : List ℕ

-- whether two entries conflict and so may not be in one period: they have the same room or course, or their courses conflict
abbrev pub exclude : Problem → Cell → Cell → Bool
exclude p x y = (x.room == y.room) || (x.course == y.course) || conflict p x.course y.course

-- whether there is one entry in each of the two periods, and they conflict
abbrev pub linked : Problem → Slot → Slot → Cell → Cell → Bool
linked p a b x y = ((is_at a x && is_at b y) || (is_at b x && is_at a y)) && exclude p x y

-- whether the members are in the two periods, and each entry that is linked to a member is a member
pub record IsClosed (p : Problem) (t : List Cell) (a b : Slot) (m : ℕ → Bool) : Type 0 where
  pub within : (i : ℕ) (d : Cell) → i < length t → m i ≡ true → (is_at a (slice_index_or t i d) || is_at b (slice_index_or t i d)) ≡ true
  pub links : (i j : ℕ) (d : Cell) → i < length t → j < length t → m i ≡ true → linked p a b (slice_index_or t i d) (slice_index_or t j d) ≡ true → m j ≡ true

-- the least closed set with the entry
pub record IsChain (p : Problem) (t : List Cell) (a b : Slot) (entry : ℕ) (members : List ℕ) : Type 0 where
  pub closed : IsClosed p t a b (has_number members)
  pub starts : has_number members entry ≡ true
  pub least : (m : ℕ → Bool) → IsClosed p t a b m → m entry ≡ true → (i : ℕ) → Contains members i → m i ≡ true

-- the one of two periods in which an entry is not
abbrev pub other : Slot → Slot → Cell → Slot
other a b e = if is_at a e then b else a

-- The entry in the other one of the two periods, with the same course and room.
abbrev pub turned : Slot → Slot → Cell → Cell
turned a b e = record { course = e.course; room = e.room; day = (other a b e).day; period = (other a b e).period }

-- The entry in the other one of the two periods if it is a member, otherwise the entry itself.
abbrev pub moved : Slot → Slot → Bool → Cell → Cell
moved a b member e = if member then turned a b e else e

-- the list with its members moved to their other periods, from place k on
abbrev pub swapped_from : Slot → Slot → (ℕ → Bool) → ℕ → List Cell → List Cell
swapped_from a b m k [] = []
swapped_from a b m k (x ∷ xs) = moved a b (m k) x ∷ swapped_from a b m (k + 1) xs

-- The timetable with its members moved to their other periods.
abbrev pub swapped : Slot → Slot → (ℕ → Bool) → List Cell → List Cell
swapped a b m t = swapped_from a b m 0 t

-- no member is unavailable in its other period
abbrev pub IsOpen : Problem → List Cell → Slot → Slot → (ℕ → Bool) → Type 0
IsOpen p t a b m =
    (i : ℕ) (d : Cell) → i < length t → m i ≡ true → unavailable p (slice_index_or t i d).course (other a b (slice_index_or t i d)).day (other a b (slice_index_or t i d)).period ≡ false

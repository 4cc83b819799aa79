-- The results of the search for a chain, and the conditions for a chain of a timetable.
use Rattle.std.specs.Prelude.{◌≡◌, ℕ, ◌≤◌, ◌<◌, ◌==◌, Bool, true, false, ◌&&◌, ◌||◌, List, length, All, Result, Ok, Err}
use Rattle.std.specs.List.Sorted.{IsStrictlyIncreasing}
use Rattle.tt_list_laws.specs.Words.{has_number}
use Rattle.tt_instance.specs.Problem.{Problem}
use Rattle.tt_instance.specs.Cells.{is_at}
use Rattle.tt_instance.specs.Courses.{unavailable}
use Rattle.tt_instance.specs.declared.cell.Cell.{Cell}
use Rattle.tt_instance.specs.declared.cell.Slot.{Slot}
use Rattle.tt_occupancy.specs.Filled.{entry_at}
use Rattle.tt_moves_chain.specs.Chains.{Kempe, linked, IsClosed, IsChain, IsOpen, other}
use Rattle.tt_moves_chain.specs.declared.kempe.ChainFault.{ChainFault}
use Rattle.tt_moves_chain.specs.declared.kempe.ChainFault.TheVariants.{SamePeriod, Unavailable, OutOfMemory}

-- Whether two periods of the week are the same.
abbrev pub same_slot : Slot → Slot → Bool
same_slot a b = (a.day == b.day) && (a.period == b.period)

-- the members of a chain between two different periods are in increasing order
pub record IsTurnable (a b : Slot) (members : List ℕ) : Type 0 where
  pub apart : same_slot a b ≡ false
  pub rising : IsStrictlyIncreasing members

-- whether the other period of the entry at a place is unavailable
abbrev pub is_shut : Problem → List Cell → Slot → Slot → ℕ → Bool
is_shut p t a b i = unavailable p (entry_at t i).course (other a b (entry_at t i)).day (other a b (entry_at t i)).period

-- the least member whose other period is unavailable
pub record IsFirstShut (p : Problem) (t : List Cell) (a b : Slot) (members : List ℕ) (i : ℕ) : Type 0 where
  pub member : has_number members i ≡ true
  pub shut : is_shut p t a b i ≡ true
  pub first : (j : ℕ) → has_number members j ≡ true → is_shut p t a b j ≡ true → i ≤ j

-- The day and the period are in the range of the instance.
pub record IsPeriod (p : Problem) (a : Slot) : Type 0 where
  pub day : a.day < p.days
  pub period : a.period < p.periods

-- A member may be moved: it is in one of the two periods, the other one is available for it, and each entry that is linked to it is
-- a member.
pub record MayTurn (p : Problem) (t : List Cell) (a b : Slot) (members : List ℕ) (i : ℕ) : Type 0 where
  pub inside : i < length t
  pub within : (is_at a (entry_at t i) || is_at b (entry_at t i)) ≡ true
  pub free : is_shut p t a b i ≡ false
  pub links : (j : ℕ) → j < length t → linked p a b (entry_at t i) (entry_at t j) ≡ true → has_number members j ≡ true

-- whether the members can change periods in the timetable: each entry linked to a member is a member, and their other periods are available
pub record IsOf (p : Problem) (t : List Cell) (c : Kempe) : Type 0 where
  pub from : IsPeriod p c.from
  pub to : IsPeriod p c.to
  pub apart : same_slot c.from c.to ≡ false
  pub inside : All (λ i. i < length t) c.members
  pub closed : IsClosed p t c.from c.to (has_number c.members)
  pub free : IsOpen p t c.from c.to (has_number c.members)

-- the chain between two periods that starts at an entry
pub record IsFound (p : Problem) (t : List Cell) (a b : Slot) (entry : ℕ) (c : Kempe) : Type 0 where
  pub from : c.from ≡ a
  pub to : c.to ≡ b
  pub chain : IsChain p t a b entry c.members
  pub of : IsOf p t c

-- the chain, or the reason why there is none
abbrev pub IsAnswer : Problem → List Cell → Slot → Slot → ℕ → Result Kempe ChainFault → Type 0
IsAnswer p t a b entry (Ok c) = IsFound p t a b entry c
IsAnswer p t a b entry (Err SamePeriod) = same_slot a b ≡ true
IsAnswer p t a b entry (Err (Unavailable i)) =
    (same_slot a b ≡ false) × (members : List ℕ) × IsChain p t a b entry members × IsFirstShut p t a b members i
IsAnswer p t a b entry (Err OutOfMemory) = same_slot a b ≡ false

-- Marks of places.
use Rattle.std.specs.Prelude.{◌≡◌, ◌⊎◌, ℕ, ◌+◌, ◌<◌, ◌≤◌, Bool, true, false, List, length, slice_index_or, count_by, Contains}
use Rattle.tt_instance.specs.Problem.{Problem}
use Rattle.tt_instance.specs.declared.cell.Slot.{Slot}
use Rattle.tt_instance.specs.declared.cell.Cell.{Cell}
use Rattle.tt_moves_chain.specs.Chains.{linked, IsClosed}

-- Whether a place is marked; a place beyond the end of the list is not.
abbrev pub marked : List Bool → ℕ → Bool
marked fs i = slice_index_or fs i false

-- The number of marked places.
abbrev pub marks : List Bool → ℕ
marks fs = count_by (λ b. b) fs

-- Whether more places are marked: each of those waits now, and a place that waits now waited before or is marked.
pub record IsMarking (before : List Bool) (waited : List ℕ) (after : List Bool) (waiting : List ℕ) : Type 0 where
  pub size : length after ≡ length before
  pub stays : (i : ℕ) → marked before i ≡ true → marked after i ≡ true
  pub new_waits : (i : ℕ) → marked after i ≡ true → (marked before i ≡ true) ⊎ Contains waiting i
  pub still_waits : (i : ℕ) → Contains waited i → Contains waiting i
  pub waits : (i : ℕ) → Contains waiting i → Contains waited i ⊎ (marked after i ≡ true)
  pub grows : marks before ≤ marks after
  pub counted : length waiting + marks before ≡ length waited + marks after

-- the least set with the entry that is closed under links
pub record IsSpread (p : Problem) (t : List Cell) (a b : Slot) (entry : ℕ) (fs : List Bool) : Type 0 where
  pub size : length fs ≡ length t
  pub starts : marked fs entry ≡ true
  pub closed : (i j : ℕ) (d : Cell) → i < length t → j < length t → marked fs i ≡ true → linked p a b (slice_index_or t i d) (slice_index_or t j d) ≡ true → marked fs j ≡ true
  pub least : (m : ℕ → Bool) → IsClosed p t a b m → m entry ≡ true → (i : ℕ) → marked fs i ≡ true → m i ≡ true

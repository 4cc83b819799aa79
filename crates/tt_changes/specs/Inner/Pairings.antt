-- Entries of two lists in pairs that have something in common.
use Rattle.std.specs.Prelude.{◌≡◌, ◌==◌, Bool, true, false, ◌&&◌, List, ◌++◌, All, IsPermutation}
use Rattle.tt_instance.specs.Cells.{same_cell}
use Rattle.tt_instance.specs.declared.cell.Cell.{Cell}
use Rattle.tt_changes.specs.Lists.{older_entries, newer_entries}
use Rattle.tt_changes.specs.declared.change.Change.{Change}
use Rattle.tt_changes.specs.declared.likeness.Likeness.{Likeness}
use Rattle.tt_changes.specs.declared.likeness.Likeness.TheVariants.{Place, Period, Course}

-- Whether the two entries have this in common.
abbrev pub are_alike : Likeness → Cell → Cell → Bool
are_alike Place a b = same_cell a b
are_alike Period a b = (a.course == b.course) && (a.day == b.day) && (a.period == b.period)
are_alike Course a b = a.course == b.course

-- No entry of one list has this in common with an entry of the other.
abbrev pub AreApart : Likeness → List Cell → List Cell → Type 0
AreApart by xs ys = All (λ x. All (λ y. are_alike by x y ≡ false) ys) xs

-- The entries of both lists are in pairs of entries that have this in common, except some that have it with none of the other list's.
pub record IsPaired (by : Likeness) (old new : List Cell) (pairs : List Change) (older newer : List Cell) : Type 0 where
  pub old_is : IsPermutation old (older_entries pairs ++ older)
  pub new_is : IsPermutation new (newer_entries pairs ++ newer)
  pub alike : All (λ m. are_alike by m.from m.to ≡ true) pairs
  pub apart : AreApart by older newer

-- Paths that leave at most one timetable possible, and the leaves that are tried on a path.
use Rattle.std.specs.Prelude.{◌≡◌, ℕ, ◌<◌, true, List, [], ◌∷◌, length, Some, Contains}
use Rattle.tt_instance.specs.Problem.{Problem}
use Rattle.tt_instance.specs.Cells.{InRange}
use Rattle.tt_instance.specs.declared.cell.Cell.{Cell}
use Rattle.tt_path.specs.Facts.{has_fact}
use Rattle.tt_path.specs.Live.{is_live}
use Rattle.tt_path.specs.declared.facts.Who.TheVariants.{Course}
use Rattle.tt_path.specs.declared.facts.Pattern.{Pattern}
use Rattle.tt_path.specs.declared.facts.Fact.{Fact}
use Rattle.tt_leaf_rules.specs.Leaves.{IsRight}
use Rattle.tt_leaf.specs.declared.leaf.Bound.{Bound}
use Rattle.tt_leaf.specs.declared.leaf.Leaf.TheVariants.{Empty, Many, Clique}
use Rattle.tt_leaf_find.specs.Best.{best_leaf, stacked_leaf}

-- The pattern that matches only this cell.
abbrev pub own_pattern : Cell → Pattern
own_pattern x = record { who = Course x.course; room = Some x.room; day = Some x.day; period = Some x.period }

-- The path has each live cell's own pattern as a yes-fact.
abbrev pub IsPinnedDown : Problem → List Fact → Type 0
IsPinnedDown p path =
    (x : Cell) → InRange p x → is_live p path x ≡ true → has_fact path (own_pattern x) true ≡ true

-- None of the leaves that are always tried is right.
pub record IsOpen (p : Problem) (path : List Fact) (b : Bound) : Type 0 where
  pub empty : (f : Fact) → Contains path f → f.holds ≡ true → ¬ IsRight p path b (Empty f.pattern)
  pub many : (c : ℕ) → c < length p.courses → ¬ IsRight p path b (Many c)
  pub clique : (c : ℕ) → c < length p.courses → ¬ IsRight p path b (Clique (c ∷ []))
  pub best : ¬ IsRight p path b (best_leaf p path)
  pub stacked : ¬ IsRight p path b (stacked_leaf p path)

-- Patterns that may split a node.
use Rattle.std.specs.Prelude.{◌≡◌, true, false, List}
use Rattle.tt_instance.specs.Problem.{Problem}
use Rattle.tt_instance.specs.Cells.{InRange}
use Rattle.tt_instance.specs.declared.cell.Cell.{Cell}
use Rattle.tt_path.specs.Facts.{IsPattern, matches, has_fact}
use Rattle.tt_path.specs.Live.{is_live}
use Rattle.tt_path.specs.declared.facts.Pattern.{Pattern}
use Rattle.tt_path.specs.declared.facts.Fact.{Fact}
use Rattle.tt_leaf_find.specs.Pinned.{own_pattern}

-- whether the cell is live, and its own pattern is not on the path as yes
pub record IsFree (p : Problem) (path : List Fact) (x : Cell) : Type 0 where
  pub live : is_live p path x ≡ true
  pub free : has_fact path (own_pattern x) true ≡ false

-- whether the pattern matches a live cell whose own pattern is not on the path as yes
pub record Aims (p : Problem) (path : List Fact) (g : Pattern) : Type 0 where
  pub cell : Cell
  pub in_range : InRange p cell
  pub matched : matches p g cell ≡ true
  pub is_free : IsFree p path cell

-- whether the pattern is not on the path as yes, and aims at a free cell
pub record IsNewSplit (p : Problem) (path : List Fact) (g : Pattern) : Type 0 where
  pub numbers : IsPattern p g
  pub not_yes : has_fact path g true ≡ false
  pub aims : Aims p path g

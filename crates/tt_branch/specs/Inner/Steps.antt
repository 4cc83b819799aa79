-- The steps of a search, in the order in which the code makes them.
use Rattle.std.specs.Prelude.{◌≡◌, ℕ, ◌+◌, List, length, map, flat_map, Option, Some, None}
use Rattle.tt_list_laws.specs.Words.{range_below}
use Rattle.tt_instance.specs.Problem.{Problem}
use Rattle.tt_instance.specs.Cells.{slot, cell, all_days, all_rooms}
use Rattle.tt_instance.specs.declared.cell.Cell.{Cell}
use Rattle.tt_path.specs.Live.{least_with}
use Rattle.tt_path.specs.declared.facts.Pattern.{Pattern}
use Rattle.tt_branch.specs.declared.tree_node.NodeState.TheVariants.{Split, Unopened}
use Rattle.tt_branch.specs.declared.tree_node.TreeNode.{TreeNode}
use Rattle.tt_branch.specs.declared.links.Link.{Link}

-- A node that is split and its children, which wait.
pub record IsSplitInto (links : List Link) (e : TreeNode) (g : Pattern) (d a b : TreeNode) : Type 0 where
  pub divided : d.mark ≡ Split g
  pub same_link : d.link ≡ e.link
  pub first : a.mark ≡ Unopened
  pub first_link : a.link ≡ length links + 1
  pub second : b.mark ≡ Unopened
  pub second_link : b.link ≡ length links + 2

-- The lesser of a value and the least value so far.
abbrev pub lower : Option ℕ → Option ℕ → Option ℕ
lower None least = least
lower (Some n) least = Some (least_with n least)

-- ---- the cells of an instance, one number at a time

-- The cells of a course in a room on a day, one for each period.
abbrev pub cells_on : Problem → ℕ → ℕ → ℕ → List Cell
cells_on p c r d = map (λ s. cell c r (slot d s)) (range_below p.periods)

-- The cells of a course in a room, day by day.
abbrev pub cells_in : Problem → ℕ → ℕ → List Cell
cells_in p c r = flat_map (cells_on p c r) (all_days p)

-- The cells of a course, room by room.
abbrev pub cells_of : Problem → ℕ → List Cell
cells_of p c = flat_map (cells_in p c) (all_rooms p)

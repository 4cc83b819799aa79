-- A bound that a tree derives holds for every feasible timetable that fits.
use Rattle.std.proofs.Common.{true, false, List, [], inl, inr}
use Rattle.std.specs.List.{list_any}
use Rattle.std.proofs.lemmas.List.Elements.{All-push, All-nil}
use Rattle.std.proofs.lemmas.Bool.{cases_Bool}
use Rattle.tt_instance.specs.Problem.{Problem}
use Rattle.tt_instance.specs.declared.cell.Cell.{Cell}
use Rattle.tt_rules.specs.Score.{IsFeasible, cost}
use Rattle.tt_path.specs.Facts.{matches, Holds, Fits}
use Rattle.tt_path.specs.declared.facts.Fact.{Fact}
use Rattle.tt_leaf_rules.specs.Bounds.{Respects}
use Rattle.tt_leaf.specs.declared.leaf.Bound.{Bound}
use Rattle.tt_leaf_rules.proofs.Soundness.{leaf_sound}
use Rattle.tt_proof_read.specs.Trees.{Tree, Tip, Fork, with_fact}
use Rattle.tt_proof_read.specs.declared.node.Node.{Node}
use Rattle.tt_proof_check.specs.Derives.{Derives, HoldsOn, HoldsOfAll, Proves}

-- by induction on the tree: a timetable meets the pattern of a split or it doesn't
pub tree_sound : (p : Problem) (t : List Cell) (ok : IsFeasible p t) (b : Bound) (path : List Fact) (tree : Tree)
    → Derives p b path tree → Fits p t path → Respects b (cost p t)
tree_sound p t ok b path (Tip leaf) d fits = leaf_sound p t ok path fits b leaf d
tree_sound p t ok b path (Fork g first second) d fits = elim (cases_Bool (list_any (matches p g) t)) [
  | inl h ↦ tree_sound p t ok b (with_fact path g true) first d.0 (All-push (Holds p t) path (record { pattern = g; holds = true }) fits h)
  | inr h ↦ tree_sound p t ok b (with_fact path g false) second d.1
      (All-push (Holds p t) path (record { pattern = g; holds = false }) fits h)
]

-- a bound that a tree derives from no fact holds for every feasible timetable
pub root_sound : (p : Problem) (b : Bound) (tree : Tree) → Derives p b [] tree → HoldsOfAll p b
root_sound p b tree d t ok = tree_sound p t ok b [] tree d (All-nil (Holds p t))

-- a bound that holds on a path with no fact holds for every feasible timetable
pub holds_rootless : (p : Problem) (b : Bound) → HoldsOn p b [] → HoldsOfAll p b
holds_rootless p b h t ok = h t ok (All-nil (Holds p t))

-- a bound that the nodes prove holds for every feasible timetable
pub proof_sound : (p : Problem) (b : Bound) (nodes : List Node) → Proves p [] b nodes → HoldsOfAll p b
proof_sound p b nodes h t ok = root_sound p b h.0 h.3 t ok

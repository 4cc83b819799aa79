-- The depth of a tree, by its leaves and by all of its nodes.
use Rattle.std.proofs.Common.{◌≡◌, ℕ, ◌+◌, ◌≤◌, true, false, List, [], length, arith, length-append}
use Rattle.std.specs.Prelude.{All}
use Rattle.std.specs.List.{AllByRecursion}
use Rattle.std.proofs.lemmas.List.Elements.{All-from_recursion, recursion_from_All}
use Rattle.tt_list_laws.proofs.Members.{each_of_append}
use Rattle.tt_list_laws.proofs.Tested.{each_append}
use Rattle.tt_path.specs.declared.facts.Fact.{Fact}
use Rattle.tt_leaf.specs.declared.leaf.Leaf.{Leaf}
use Rattle.tt_proof_read.specs.Trees.{Tree, Tip, Fork, OnPath, AllLeaves, on_paths, with_fact}

module _ (n : ℕ) where
  abbrev IsLow : List Fact → Leaf → Type 0
  IsLow path leaf = length path ≤ n

  abbrev IsLowNode : OnPath → Type 0
  IsLowNode x = length x.path ≤ n

  low_leaves : (tree : Tree) (path : List Fact) → AllByRecursion IsLowNode (on_paths path tree) → AllLeaves IsLow path tree
  low_leaves (Tip leaf) path h = h.0
  low_leaves (Fork g first second) path h =
      let parts = each_of_append IsLowNode (on_paths (with_fact path g true) first) (on_paths (with_fact path g false) second) h.1 in
      (low_leaves first (with_fact path g true) parts.0, low_leaves second (with_fact path g false) parts.1)

  -- if no leaf below a node is too deep, the node isn't
  pub root_low : (tree : Tree) (path : List Fact) → AllLeaves IsLow path tree → length path ≤ n
  root_low (Tip leaf) path h = h
  root_low (Fork g first second) path h =
      let longer : length (with_fact path g true) ≡ length path + 1 = length-append path _ in
      omega (arith, longer, root_low first (with_fact path g true) h.0)

  low_nodes : (tree : Tree) (path : List Fact) → AllLeaves IsLow path tree → AllByRecursion IsLowNode (on_paths path tree)
  low_nodes (Tip leaf) path h = (h, tt)
  low_nodes (Fork g first second) path h = (
    root_low (Fork g first second) path h,
    each_append IsLowNode (on_paths (with_fact path g true) first) (on_paths (with_fact path g false) second)
        (low_nodes first (with_fact path g true) h.0) (low_nodes second (with_fact path g false) h.1),
  )

  -- if no node is too deep, no leaf is
  pub leaves_low : (tree : Tree) → All (λ x. length x.path ≤ n) (on_paths [] tree) → AllLeaves (λ path _. length path ≤ n) [] tree
  leaves_low tree h = low_leaves tree [] (recursion_from_All IsLowNode (on_paths [] tree) h)

  -- if no leaf is too deep, no node is
  pub nodes_low : (tree : Tree) → AllLeaves (λ path _. length path ≤ n) [] tree → All (λ x. length x.path ≤ n) (on_paths [] tree)
  nodes_low tree h = All-from_recursion IsLowNode (on_paths [] tree) (low_nodes tree [] h)

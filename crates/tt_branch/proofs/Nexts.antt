-- The open nodes among the first of a list.
use Rattle.std.proofs.Common.{◌≡◌, ℕ, ◌+◌, ◌<◌, true, false, ◌||◌, List, [], ◌∷◌, ◌++◌, length, get_or, take, Some, sym, ap, ◌∙◌}
use Rattle.std.specs.Prelude.{Bool}
use Rattle.std.specs.List.{list_any}
use Rattle.std.proofs.lemmas.List.{take_more}
use Rattle.std.proofs.lemmas.List.Folds.{list_any-append}
use Rattle.std.proofs.lemmas.Option.{slice_get-get_or}
use Rattle.tt_branch.specs.declared.tree_node.TreeNode.{TreeNode}
use Rattle.tt_branch.specs.Inner.Growing.{is_open, IsOpenAt}

pub open_here : (tree_nodes : List TreeNode) (place : ℕ) (e : TreeNode) → place < length tree_nodes → e ≡ get_or tree_nodes place e
    → is_open e.mark ≡ true → IsOpenAt tree_nodes place
open_here tree_nodes place e h is o = (e, slice_get-get_or tree_nodes place e h ∙ ap Some (sym is), o)

pub none_more : (q : TreeNode → Bool) (tree_nodes : List TreeNode) (place : ℕ) (e : TreeNode) → place < length tree_nodes
    → e ≡ get_or tree_nodes place e → list_any q (take place tree_nodes) ≡ false → q e ≡ false
    → list_any q (take (place + 1) tree_nodes) ≡ false
none_more q tree_nodes place e h is none off =
    ap (list_any q) (take_more tree_nodes place e h ∙ ap (λ x. take place tree_nodes ++ x ∷ []) (sym is))
    ∙ list_any-append q (take place tree_nodes) (e ∷ []) ∙ ap (λ b. b || (q e || false)) none ∙ ap (λ b. b || false) off

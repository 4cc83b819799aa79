-- Nodes that fill each open place are one tree in preorder.
use Rattle.std.proofs.Common.{◌≡◌, ℕ, zero, suc, ◌+◌, ◌-◌, ◌≤◌, ◌<◌, ◌==◌, List, [], ◌∷◌, ◌++◌, length, get_or, drop, Some, None, refl, sym, ap, ◌∙◌, arith, append_assoc, append-nil, le_of_suc-le-suc, eqb-true, eq-eqb, ◌↔◌, IsTrue}
use Rattle.std.proofs.lemmas.List.{at_drop_more, at_drop_all}
use Rattle.tt_proof_read.specs.Reads.{open_after}
use Rattle.tt_proof_read.specs.Readers.{places_after}
use Rattle.tt_proof_read.specs.Trees.{Tree, Tip, Fork, preorder, IsPreorder}
use Rattle.tt_proof_read.specs.declared.node.Node.{Node}
use Rattle.tt_proof_read.specs.declared.node.Node.TheVariants.{Split, Leaf}

-- the nodes of a tree fill one place
tree_fills : (tree : Tree) (places : ℕ) (nodes : List Node) → open_after (suc places) (preorder tree ++ nodes) ≡ open_after places nodes
tree_fills (Tip leaf) places nodes = refl
tree_fills (Fork g x y) places nodes =
    ap (λ l. open_after (suc (suc places)) l) (append_assoc (preorder x) (preorder y) nodes)
    ∙ tree_fills x (suc places) (preorder y ++ nodes) ∙ tree_fills y places nodes

-- a tree at the front of some nodes
record Begins (places : ℕ) (nodes : List Node) : Type 0 where
  tree : Tree
  more : List Node
  split : preorder tree ++ more ≡ nodes
  others : open_after places more ≡ Some 0
  shorter : length more < length nodes

first_tree : (n : ℕ) (nodes : List Node) (places : ℕ) → length nodes ≤ n → open_after (suc places) nodes ≡ Some 0 → Begins places nodes
first_tree n [] places h e = cc
first_tree zero (x ∷ xs) places h e = absurd (omega arith)
first_tree (suc n) (Leaf leaf ∷ nodes) places h e =
    record { tree = Tip leaf; more = nodes; split = refl; others = e; shorter = omega arith }
first_tree (suc n) (Split g ∷ nodes) places h e =
    let a = first_tree n nodes (suc places) (le_of_suc-le-suc h) e in
    let b = first_tree n a.more places (omega (arith, a.shorter)) a.others in
    record {
      tree = Fork g a.tree b.tree;
      more = b.more;
      split = ap (λ l. Split g ∷ l) (append_assoc (preorder a.tree) (preorder b.tree) b.more ∙ ap (λ l. preorder a.tree ++ l) b.split
          ∙ a.split);
      others = b.others;
      shorter = omega (arith, a.shorter, b.shorter);
    }

none_left : (nodes : List Node) → open_after 0 nodes ≡ Some 0 → nodes ≡ []
none_left [] e = refl
none_left (node ∷ nodes) e = cc

-- nodes that leave no place open are one tree
pub filled_tree : (nodes : List Node) → open_after 1 nodes ≡ Some 0 → IsPreorder nodes
filled_tree nodes e =
    let h = first_tree (length nodes) nodes 0 (omega arith) e in
    (h.tree, sym (append-nil (preorder h.tree)) ∙ ap (λ l. preorder h.tree ++ l) (sym (none_left h.more h.others)) ∙ h.split)

-- the nodes of a tree leave no place open
pub tree_filled : (tree : Tree) → open_after 1 (preorder tree) ≡ Some 0
tree_filled tree = ap (open_after 1) (sym (append-nil (preorder tree))) ∙ tree_fills tree 0 []

-- nodes in preorder leave no place open
pub preorder_fills : (nodes : List Node) → IsPreorder nodes → open_after 1 nodes ≡ Some 0
preorder_fills nodes whole = ap (open_after 1) (sym whole.1) ∙ tree_filled whole.0

-- a node is read if a place is open
pub open_more : (nodes : List Node) (i places : ℕ) (node : Node) → i < length nodes → node ≡ get_or nodes i node → ¬ (places ≡ 0)
    → open_after places (drop i nodes) ≡ open_after (places_after node places) (drop (i + 1) nodes)
open_more nodes i zero node below is some = absurd (some refl)
open_more nodes i (suc n) (Leaf leaf) below is some =
    let fewer : n ≡ suc n - 1 = omega arith in
    at_drop_more (open_after (suc n)) nodes i (Leaf leaf) below ∙ ap (λ x. open_after (suc n) (x ∷ drop (i + 1) nodes)) (sym is)
    ∙ ap (λ m. open_after m (drop (i + 1) nodes)) fewer
open_more nodes i (suc n) (Split g) below is some =
    let more : suc (suc n) ≡ suc n + 1 = omega arith in
    at_drop_more (open_after (suc n)) nodes i (Split g) below ∙ ap (λ x. open_after (suc n) (x ∷ drop (i + 1) nodes)) (sym is)
    ∙ ap (λ m. open_after m (drop (i + 1) nodes)) more

none_is_not : (n : ℕ) → None ≡ Some n → ⊥
none_is_not n e = cc

some_is : (a b : ℕ) → Some a ≡ Some b → a ≡ b
some_is a b e = cc

-- if no place is open but a node is left, the nodes are not one tree
pub open_over : (nodes : List Node) (i : ℕ) (node : Node) → i < length nodes → open_after 1 nodes ≡ open_after 0 (drop i nodes)
    → ¬ IsPreorder nodes
open_over nodes i node below so_far whole =
    let none : open_after 0 (drop i nodes) ≡ None = at_drop_more (open_after 0) nodes i node below in
    none_is_not 0 (sym (so_far ∙ none) ∙ preorder_fills nodes whole)

-- at the end, no place is open exactly if the nodes are one tree
pub open_reported : (nodes : List Node) (i places : ℕ) → length nodes ≤ i → open_after 1 nodes ≡ open_after places (drop i nodes)
    → IsTrue (places == 0) ↔ IsPreorder nodes
open_reported nodes i places past so_far =
    let left : open_after 1 nodes ≡ Some places = so_far ∙ at_drop_all (open_after places) nodes i past in (
      λ t. filled_tree nodes (left ∙ ap Some (eqb-true places 0 t)),
      λ whole. eq-eqb places 0 (some_is places 0 (sym left ∙ preorder_fills nodes whole)),
    )

-- Nodes in preorder, read with a stack of the paths whose nodes are not read yet.
use Rattle.std.proofs.Common.{◌≡◌, ℕ, zero, suc, ◌≤◌, ◌<◌, true, false, List, [], ◌∷◌, ◌++◌, map, length, Option, Some, None, refl, sym, ap, ◌∙◌, arith, append_assoc, append-nil, le_of_suc-le-suc}
use Rattle.std.specs.Prelude.{slice_get}
use Rattle.tt_path.specs.declared.facts.Fact.{Fact}
use Rattle.tt_leaf.specs.declared.leaf.Leaf.TheVariants.{Many}
use Rattle.tt_proof_read.specs.Trees.{Tree, Tip, Fork, with_fact, preorder, OnPath, on_paths, IsPreorder}
use Rattle.tt_proof_read.specs.declared.node.Node.{Node}
use Rattle.tt_proof_read.specs.declared.node.Node.TheVariants.{Split, Leaf}

abbrev pub Stack : Type 0
Stack = List (List Fact)

-- the place of a whole tree, with these facts at its root
abbrev pub place : List Fact → Stack
place root = root ∷ []

-- the paths that are open after a node
abbrev pub next_stack : List Fact → Stack → Node → Stack
next_stack path rest (Leaf leaf) = rest
next_stack path rest (Split g) = with_fact path g true ∷ with_fact path g false ∷ rest

-- the stack after these nodes, if each of them had an open place
abbrev pub stack_after : Stack → List Node → Option Stack
stack_after stack [] = Some stack
stack_after [] (n ∷ ns) = None
stack_after (path ∷ rest) (n ∷ ns) = stack_after (next_stack path rest n) ns

abbrev pub at : List Fact → Node → OnPath
at path node = record { path = path; node = node }

-- each node with the path that is open when the node is read
abbrev pub places_of : Stack → List Node → List OnPath
places_of [] ns = []
places_of (path ∷ rest) [] = []
places_of (path ∷ rest) (n ∷ ns) = at path n ∷ places_of (next_stack path rest n) ns

-- ---- more nodes

pub stack_after-append : (stack after : Stack) (nodes more : List Node) → stack_after stack nodes ≡ Some after
    → stack_after stack (nodes ++ more) ≡ stack_after after more
stack_after-append stack after [] more e = let same : stack ≡ after = cc in ap (λ (s : Stack). stack_after s more) same
stack_after-append [] after (n ∷ ns) more e = cc
stack_after-append (path ∷ rest) after (n ∷ ns) more e = stack_after-append (next_stack path rest n) after ns more e

nothing_placed : (stack : Stack) → places_of stack [] ≡ []
nothing_placed [] = refl
nothing_placed (path ∷ rest) = refl

pub places_of-append : (stack after : Stack) (nodes more : List Node) → stack_after stack nodes ≡ Some after
    → places_of stack (nodes ++ more) ≡ places_of stack nodes ++ places_of after more
places_of-append stack after [] more e =
    let same : stack ≡ after = cc in ap (λ (s : Stack). places_of s more) same ∙ ap (λ l. l ++ places_of after more)
    (sym (nothing_placed stack))
places_of-append [] after (n ∷ ns) more e = cc
places_of-append (path ∷ rest) after (n ∷ ns) more e = ap (λ l. at path n ∷ l) (places_of-append (next_stack path rest n) after ns more e)

pub length-places_of : (stack after : Stack) (nodes : List Node) → stack_after stack nodes ≡ Some after
    → length (places_of stack nodes) ≡ length nodes
length-places_of [] after [] e = refl
length-places_of (path ∷ rest) after [] e = refl
length-places_of [] after (n ∷ ns) e = cc
length-places_of (path ∷ rest) after (n ∷ ns) e = ap (λ k. suc k) (length-places_of (next_stack path rest n) after ns e)

-- another node
pub stack_after-push : (root path : List Fact) (rest : Stack) (nodes : List Node) (n : Node)
    → stack_after (place root) nodes ≡ Some (path ∷ rest) → stack_after (place root) (nodes ++ n ∷ []) ≡ Some (next_stack path rest n)
stack_after-push root path rest nodes n e = stack_after-append (place root) (path ∷ rest) nodes (n ∷ []) e

pub places_of-push : (root path : List Fact) (rest : Stack) (nodes : List Node) (n : Node)
    → stack_after (place root) nodes ≡ Some (path ∷ rest)
    → places_of (place root) (nodes ++ n ∷ []) ≡ places_of (place root) nodes ++ at path n ∷ []
places_of-push root path rest nodes n e =
    places_of-append (place root) (path ∷ rest) nodes (n ∷ []) e ∙ ap (λ l. places_of (place root) nodes ++ at path n ∷ l)
    (nothing_placed (next_stack path rest n))

-- ---- a whole tree

stack_after-tree : (tree : Tree) (path : List Fact) (rest : Stack) (ns : List Node) → stack_after (path ∷ rest) (preorder tree ++ ns)
    ≡ stack_after rest ns
stack_after-tree (Tip leaf) path rest ns = refl
stack_after-tree (Fork g x y) path rest ns =
    let a = with_fact path g true in
    let b = with_fact path g false in
    ap (λ l. stack_after (a ∷ b ∷ rest) l) (append_assoc (preorder x) (preorder y) ns)
    ∙ stack_after-tree x a (b ∷ rest) (preorder y ++ ns) ∙ stack_after-tree y b rest ns

places_of-tree : (tree : Tree) (path : List Fact) (rest : Stack) (ns : List Node) → places_of (path ∷ rest) (preorder tree ++ ns)
    ≡ on_paths path tree ++ places_of rest ns
places_of-tree (Tip leaf) path rest ns = refl
places_of-tree (Fork g x y) path rest ns =
    let a = with_fact path g true in
    let b = with_fact path g false in
    ap (λ l. at path (Split g) ∷ places_of (a ∷ b ∷ rest) l) (append_assoc (preorder x) (preorder y) ns)
    ∙ ap (λ l. at path (Split g) ∷ l) (places_of-tree x a (b ∷ rest) (preorder y ++ ns)
    ∙ ap (λ l. on_paths a x ++ l) (places_of-tree y b rest ns) ∙ sym (append_assoc (on_paths a x) (on_paths b y) (places_of rest ns)))

-- the nodes of a tree leave no place open
pub whole_stack : (root : List Fact) (tree : Tree) (nodes : List Node) → preorder tree ≡ nodes → stack_after (place root) nodes ≡ Some []
whole_stack root tree nodes e =
    ap (stack_after (place root)) (sym e ∙ sym (append-nil (preorder tree))) ∙ stack_after-tree tree root [] []

-- the nodes of a tree are on the paths of the tree
pub whole_places : (root : List Fact) (tree : Tree) (nodes : List Node) → preorder tree ≡ nodes
    → places_of (place root) nodes ≡ on_paths root tree
whole_places root tree nodes e =
    ap (places_of (place root)) (sym e ∙ sym (append-nil (preorder tree))) ∙ places_of-tree tree root [] []
    ∙ append-nil (on_paths root tree)

-- a tree at the beginning of the nodes
record Begins (rest : Stack) (nodes : List Node) : Type 0 where
  tree : Tree
  behind : List Node
  split : preorder tree ++ behind ≡ nodes
  others : stack_after rest behind ≡ Some []
  shorter : length behind < length nodes

first_tree : (n : ℕ) (nodes : List Node) (path : List Fact) (rest : Stack) → length nodes ≤ n → stack_after (path ∷ rest) nodes ≡ Some
    [] → Begins rest nodes
first_tree n [] path rest h e = cc
first_tree zero (x ∷ xs) path rest h e = absurd (omega arith)
first_tree (suc n) (Leaf leaf ∷ ns) path rest h e =
    record { tree = Tip leaf; behind = ns; split = refl; others = e; shorter = omega arith }
first_tree (suc n) (Split g ∷ ns) path rest h e =
    let a = first_tree n ns (with_fact path g true) (with_fact path g false ∷ rest) (le_of_suc-le-suc h) e in
    let b = first_tree n a.behind (with_fact path g false) rest (omega (arith, a.shorter)) a.others in
    record {
      tree = Fork g a.tree b.tree;
      behind = b.behind;
      split = ap (λ l. Split g ∷ l) (append_assoc (preorder a.tree) (preorder b.tree) b.behind ∙ ap (λ l. preorder a.tree ++ l) b.split
          ∙ a.split);
      others = b.others;
      shorter = omega (arith, a.shorter, b.shorter);
    }

nothing_behind : (nodes : List Node) → stack_after [] nodes ≡ Some [] → nodes ≡ []
nothing_behind [] e = refl
nothing_behind (n ∷ ns) e = cc

-- nodes that leave no place open are a tree
pub stack_whole : (root : List Fact) (nodes : List Node) → stack_after (place root) nodes ≡ Some [] → IsPreorder nodes
stack_whole root nodes e =
    let h = first_tree (length nodes) nodes root [] (omega arith) e in
    (h.tree, sym (append-nil (preorder h.tree)) ∙ ap (λ l. preorder h.tree ++ l) (sym (nothing_behind h.behind h.others)) ∙ h.split)

-- ---- the beginning of a tree

-- a leaf for each open place
abbrev pub closing : Stack → List Node
closing stack = map (λ path. Leaf (Many 0)) stack

stack_after-closing : (stack : Stack) → stack_after stack (closing stack) ≡ Some []
stack_after-closing [] = refl
stack_after-closing (path ∷ rest) = stack_after-closing rest

-- some tree continues any nodes that each had an open place, with a node for each place that is open
pub some_tree : (root : List Fact) (nodes : List Node) (stack : Stack) → stack_after (place root) nodes ≡ Some stack
    → (tree : Tree) × (preorder tree ≡ nodes ++ closing stack)
some_tree root nodes stack e =
    stack_whole root (nodes ++ closing stack) (stack_after-append (place root) stack nodes (closing stack) e ∙ stack_after-closing stack)

-- a tree that continues the nodes has them on these paths
pub tree_goes_on : (root : List Fact) (tree : Tree) (path : List Fact) (others : Stack) (nodes : List Node) (n : Node)
    (rest : List Node) → preorder tree ≡ nodes ++ n ∷ rest → stack_after (place root) nodes ≡ Some (path ∷ others)
    → on_paths root tree ≡ places_of (place root) nodes ++ at path n ∷ places_of (next_stack path others n) rest
tree_goes_on root tree path others nodes n rest s e = sym (whole_places root tree (nodes ++ n ∷ rest) s)
    ∙ places_of-append (place root) (path ∷ others) nodes (n ∷ rest) e

-- if no place is open, no tree continues the nodes
pub no_tree_goes_on : (root : List Fact) (tree : Tree) (nodes : List Node) (n : Node) (rest : List Node)
    → preorder tree ≡ nodes ++ n ∷ rest → stack_after (place root) nodes ≡ Some [] → ⊥
no_tree_goes_on root tree nodes n rest s e =
    let none : stack_after (place root) (nodes ++ n ∷ rest) ≡ None = stack_after-append (place root) [] nodes (n ∷ rest) e in
    let some = whole_stack root tree (nodes ++ n ∷ rest) s in
    cc

-- if a place is open, the nodes are no tree
pub no_tree_yet : (root : List Fact) (tree : Tree) (path : List Fact) (others : Stack) (nodes : List Node) → preorder tree ≡ nodes
    → stack_after (place root) nodes ≡ Some (path ∷ others) → ⊥
no_tree_yet root tree path others nodes s e = let some = whole_stack root tree nodes s in cc

-- an element after others
pub get-behind : {X : Type 0} (xs : List X) (x : X) (ys : List X) (n : ℕ) → length xs ≡ n → slice_get (xs ++ x ∷ ys) n ≡ Some x
get-behind [] x ys zero e = refl
get-behind [] x ys (suc n) e = absurd (omega (arith, e))
get-behind (a ∷ xs) x ys zero e = let h : suc (length xs) ≡ 0 = e in absurd (omega (arith, h))
get-behind (a ∷ xs) x ys (suc n) e = let h : suc (length xs) ≡ suc n = e in get-behind xs x ys n (omega (arith, h))

-- The depth of the nodes of a tree, from the depths of the second children that are not read yet.
use Rattle.std.proofs.Common.{◌≡◌, ℕ, ◌+◌, ◌<◌, ◌≤◌, Bool, true, false, ◌&&◌, nat_lt, List, [], ◌∷◌, ◌++◌, length, get_or, drop, reverse, refl, sym, ap, ◌∙◌, append_assoc, arith, length-append, ◌↔◌, IsTrue, lit≤, ◌≢◌, Option, None, Some, IsSome, unwrap_or}
use Rattle.std.specs.Option.{option_to_list}
use Rattle.std.proofs.lemmas.Bool.{lt-ltb, and_parts, and_from}
use Rattle.std.proofs.lemmas.Bool.Decides.{nat_tests}
use Rattle.std.proofs.lemmas.List.{append-nil, at_drop_more, at_drop_all, length-reverse, reverse-append}
use Rattle.tt_path.specs.declared.facts.Fact.{Fact}
use Rattle.tt_path.specs.declared.facts.Pattern.{Pattern}
use Rattle.tt_path.specs.declared.path.TheConstants.{MAX_FACTS}
use Rattle.tt_leaf.specs.declared.leaf.Leaf.{Leaf as Closed}
use Rattle.tt_proof_read.specs.declared.node.Node.{Node}
use Rattle.tt_proof_read.specs.declared.node.Node.TheVariants.{Split, Leaf}
use Rattle.tt_proof_read.specs.Trees.{Tree, Tip, Fork, AllLeaves, preorder, with_fact, IsPreorder}
use Rattle.tt_proof_read.proofs.Depth.{root_low}
use Rattle.tt_proof_write.specs.Within.{AreShallow}
use Rattle.std.proofs.Math.Bool.{and-true}

-- the depth after a leaf
abbrev pub next_depth : List ℕ → ℕ
next_depth [] = 0
next_depth (d ∷ ds) = d

abbrev pub later_depths : List ℕ → List ℕ
later_depths [] = []
later_depths (d ∷ ds) = ds

-- whether none of the nodes is too deep, if they start at depth d and second children at the depths ds are still to come
abbrev pub are_shallow : ℕ → List ℕ → List Node → Bool
are_shallow d ds [] = true
are_shallow d ds (Split g ∷ nodes) = nat_lt d MAX_FACTS && are_shallow (d + 1) ((d + 1) ∷ ds) nodes
are_shallow d ds (Leaf leaf ∷ nodes) = are_shallow (next_depth ds) (later_depths ds) nodes

-- whether no node of a tree that starts at depth d is too deep
abbrev is_shallow_tree : ℕ → Tree → Bool
is_shallow_tree d (Tip leaf) = true
is_shallow_tree d (Fork g first second) = nat_lt d MAX_FACTS && (is_shallow_tree (d + 1) first && is_shallow_tree (d + 1) second)

regrouped : (a b c d : Bool) → (a && (b && (c && d))) ≡ ((a && (b && c)) && d)
regrouped true true c d = refl
regrouped true false c d = refl
regrouped false b c d = refl

-- a tree followed by other nodes: the tree starts at the first depth, and the other nodes at the next ones
shallow-tree : (tree : Tree) (d : ℕ) (ds : List ℕ) (rest : List Node) → are_shallow d ds (preorder tree ++ rest) ≡
    (is_shallow_tree d tree && are_shallow (next_depth ds) (later_depths ds) rest)
shallow-tree (Tip leaf) d ds rest = refl
shallow-tree (Fork g first second) d ds rest =
    let firsts = ap (are_shallow (d + 1) ((d + 1) ∷ ds)) (append_assoc (preorder first) (preorder second) rest)
    ∙ shallow-tree first (d + 1) ((d + 1) ∷ ds) (preorder second ++ rest) in
    let seconds = ap (λ (b : Bool). is_shallow_tree (d + 1) first && b) (shallow-tree second (d + 1) ds rest) in
    ap (λ (b : Bool). nat_lt d MAX_FACTS && b) (firsts ∙ seconds)
    ∙ regrouped (nat_lt d MAX_FACTS) (is_shallow_tree (d + 1) first) (is_shallow_tree (d + 1) second)
    (are_shallow (next_depth ds) (later_depths ds) rest)

abbrev IsLow : List Fact → Closed → Type 0
IsLow path leaf = length path ≤ MAX_FACTS

longer : (path : List Fact) (g : Pattern) (holds : Bool) (d : ℕ) → length path ≡ d → length (with_fact path g holds) ≡ d + 1
longer path g holds d e = length-append path _ ∙ omega arith

-- the paths of a shallow tree are short
shallow_paths : (tree : Tree) (path : List Fact) (d : ℕ) → length path ≡ d → d ≤ MAX_FACTS → is_shallow_tree d tree ≡ true
    → AllLeaves IsLow path tree
shallow_paths (Tip leaf) path d e low h = omega arith
shallow_paths (Fork g first second) path d e low h =
    let here = and_parts (nat_lt d MAX_FACTS) _ h in
    let both = and_parts (is_shallow_tree (d + 1) first) (is_shallow_tree (d + 1) second) here.1 in
    let lower : d + 1 ≤ MAX_FACTS = grind (arith, nat_tests) in (
      shallow_paths first (with_fact path g true) (d + 1) (longer path g true d e) lower both.0,
      shallow_paths second (with_fact path g false) (d + 1) (longer path g false d e) lower both.1,
    )

-- a tree with short paths is shallow
paths_shallow : (tree : Tree) (path : List Fact) (d : ℕ) → length path ≡ d → AllLeaves IsLow path tree → is_shallow_tree d tree ≡ true
paths_shallow (Tip leaf) path d e h = refl
paths_shallow (Fork g first second) path d e h =
    let low = root_low MAX_FACTS first (with_fact path g true) h.0 in
    and_from (nat_lt d MAX_FACTS) _ (lt-ltb d MAX_FACTS (omega (arith, low, longer path g true d e)))
    (and_from _ _ (paths_shallow first (with_fact path g true) (d + 1) (longer path g true d e) h.0)
    (paths_shallow second (with_fact path g false) (d + 1) (longer path g false d e) h.1))

whole : (tree : Tree) → are_shallow 0 [] (preorder tree) ≡ is_shallow_tree 0 tree
whole tree = ap (are_shallow 0 []) (sym (append-nil (preorder tree))) ∙ shallow-tree tree 0 [] [] ∙ and-true (is_shallow_tree 0 tree)

shallow_from : (nodes : List Node) → are_shallow 0 [] nodes ≡ true → AreShallow nodes
shallow_from nodes h = λ tree e. shallow_paths tree [] 0 refl (lit≤ tt) (sym (whole tree) ∙ ap (are_shallow 0 []) e ∙ h)

shallow_to : (nodes : List Node) → IsPreorder nodes → AreShallow nodes → are_shallow 0 [] nodes ≡ true
shallow_to nodes is h = ap (are_shallow 0 []) (sym is.1) ∙ whole is.0 ∙ paths_shallow is.0 [] 0 refl (h is.0 is.1)

-- the test returns whether the nodes of a tree are not too deep
pub depth_reported : (nodes : List Node) (answer : Bool) → IsPreorder nodes → answer ≡ are_shallow 0 [] nodes
    → IsTrue answer ↔ AreShallow nodes
depth_reported nodes answer tree is = (λ t. shallow_from nodes (sym is ∙ t), λ h. is ∙ shallow_to nodes tree h)

-- -- the second children that are not read yet

-- depths in decreasing order, from d on; each is followed by fewer depths than its value
abbrev pub AreFalling : ℕ → List ℕ → Type 0
AreFalling d [] = Unit {0}
AreFalling d (e ∷ ds) = (e ≤ d) × (length ds < e) × AreFalling e ds

-- so there are at most d of them
length-falling : (d : ℕ) (ds : List ℕ) → AreFalling d ds → length ds ≤ d
length-falling d [] falling = omega arith
length-falling d (e ∷ ds) falling = omega (arith, falling.0, falling.1)

-- they are also decreasing from a greater depth
falling_deeper : (d : ℕ) (ds : List ℕ) → AreFalling d ds → AreFalling (d + 1) ds
falling_deeper d [] falling = tt
falling_deeper d (e ∷ ds) falling = (omega (arith, falling.0), falling.1, falling.2)

-- the depth after a leaf is no greater
next_low : (d : ℕ) (ds : List ℕ) → AreFalling d ds → next_depth ds ≤ d
next_low d [] falling = omega arith
next_low d (e ∷ ds) falling = falling.0

-- the later depths are decreasing from the next depth
next_falling : (d : ℕ) (ds : List ℕ) → AreFalling d ds → AreFalling (next_depth ds) (later_depths ds)
next_falling d [] falling = tt
next_falling d (e ∷ ds) falling = falling.2

-- the last depth added is the first of the reversed list
reverse_pushed : (old new : List ℕ) (d : ℕ) → new ≡ old ++ d ∷ [] → reverse new ≡ d ∷ reverse old
reverse_pushed old new d e = ap (λ (ds : List ℕ). reverse ds) e ∙ reverse-append old (d ∷ [])

-- no depth is removed from an empty list
nothing_popped : (old new : List ℕ) → old ≡ new ++ [] → (0 < length old → ⊥) → (next_depth (reverse old) ≡ 0)
    × (later_depths (reverse old) ≡ reverse new)
nothing_popped [] new e none = (refl, ap (λ (ds : List ℕ). reverse ds) (e ∙ append-nil new))
nothing_popped (x ∷ xs) new e none = absurd (none (omega arith))

-- the depth that is removed is the first of the reversed list
reverse_popped : (old new : List ℕ) (o : Option ℕ) → old ≡ new ++ option_to_list o → (IsSome o ↔ (0 < length old))
    → (next_depth (reverse old) ≡ unwrap_or o 0) × (later_depths (reverse old) ≡ reverse new)
reverse_popped old new None e some = nothing_popped old new e (λ more. (let held : false ≡ true = some.1 more in cc))
reverse_popped old new (Some d) e some = rw (reverse_pushed new old d e) (refl, refl)

-- ---- the walk over the nodes

-- the next node is read
node_read : (d : ℕ) (ds : List ℕ) (nodes : List Node) (i : ℕ) (node read : Node) → i < length nodes → node ≡ get_or nodes i node
    → node ≡ read → are_shallow d ds (drop i nodes) ≡ are_shallow d ds (read ∷ drop (i + 1) nodes)
node_read d ds nodes i node read below is e = at_drop_more (are_shallow d ds) nodes i node below
    ∙ ap (λ (n : Node). are_shallow d ds (n ∷ drop (i + 1) nodes)) (sym is ∙ e)

-- the invariant of a walk at a node at depth d, with second children at the depths ds still to come
pub record KeepsDepths (nodes : List Node) (i d : ℕ) (ds : List ℕ) : Type 0 where
  pub reported : are_shallow d ds (drop i nodes) ≡ are_shallow 0 [] nodes
  pub low : d ≤ MAX_FACTS
  pub falling : AreFalling d ds

-- at the first node, no second child is still to come
pub walk_begins : (nodes : List Node) (pending : List ℕ) → pending ≡ [] → KeepsDepths nodes 0 0 (reverse pending)
walk_begins nodes pending none = rw none (record { reported = refl; low = lit≤ tt; falling = tt })

-- there is room for another second child if the depth is not too great
pub walk_room : (nodes : List Node) (i d : ℕ) (pending : List ℕ) → KeepsDepths nodes i d (reverse pending) → d ≢ MAX_FACTS
    → length pending < MAX_FACTS
walk_room nodes i d pending keeps free = omega (arith, keeps.low, length-reverse pending, length-falling d (reverse pending) keeps.falling)

-- the first child of a split is next, and the second child later
pub walk_split : (nodes : List Node) (i d e : ℕ) (old new : List ℕ) (node : Node) (g : Pattern) → i < length nodes
    → node ≡ get_or nodes i node → node ≡ Split g → d ≢ MAX_FACTS → e ≡ d + 1 → new ≡ old ++ (d + 1) ∷ []
    → KeepsDepths nodes i d (reverse old) → KeepsDepths nodes (i + 1) e (reverse new)
walk_split nodes i d e old new node g below is split free deeper pushed keeps =
    let within : d < MAX_FACTS = omega (arith, keeps.low) in
    let ds = reverse old in
    let here : are_shallow d ds (Split g ∷ drop (i + 1) nodes) ≡ are_shallow (d + 1) ((d + 1) ∷ ds) (drop (i + 1) nodes) =
    rw (lt-ltb d MAX_FACTS within) refl in
    rw (deeper, reverse_pushed old new (d + 1) pushed)
    (record {
      reported = sym here ∙ sym (node_read d ds nodes i node (Split g) below is split) ∙ keeps.reported;
      low = omega arith;
      falling = (omega arith, omega (arith, length-falling d ds keeps.falling), falling_deeper d ds keeps.falling);
    })

-- after a leaf, the last of the second children is next
pub walk_leaf : (nodes : List Node) (i d e : ℕ) (old new : List ℕ) (node : Node) (leaf : Closed) (popped : Option ℕ) → i < length nodes
    → node ≡ get_or nodes i node → node ≡ Leaf leaf → e ≡ unwrap_or popped 0 → old ≡ new ++ option_to_list popped
    → (IsSome popped ↔ (0 < length old))
    → KeepsDepths nodes i d (reverse old) → KeepsDepths nodes (i + 1) e (reverse new)
walk_leaf nodes i d e old new node leaf popped below is closed next split_off some keeps =
    let ds = reverse old in
    let last = reverse_popped old new popped split_off some in
    rw (next, ← last.0, ← last.1)
    (record {
      reported = sym (node_read d ds nodes i node (Leaf leaf) below is closed) ∙ keeps.reported;
      low = omega (arith, keeps.low, next_low d ds keeps.falling);
      falling = next_falling d ds keeps.falling;
    })

-- a split at the greatest depth has children that are too deep
pub walk_too_deep : (nodes : List Node) (i d : ℕ) (ds : List ℕ) (node : Node) (g : Pattern) → IsPreorder nodes
    → KeepsDepths nodes i d ds → i < length nodes → node ≡ get_or nodes i node → node ≡ Split g → d ≡ MAX_FACTS
    → IsTrue false ↔ AreShallow nodes
walk_too_deep nodes i d ds node g tree keeps below is split deep =
    let here : are_shallow d ds (Split g ∷ drop (i + 1) nodes) ≡ false = rw deep refl in
    depth_reported nodes false tree (sym here ∙ sym (node_read d ds nodes i node (Split g) below is split) ∙ keeps.reported)

-- at the end of the walk, no node is too deep
pub walk_done : (nodes : List Node) (i d : ℕ) (ds : List ℕ) → IsPreorder nodes → KeepsDepths nodes i d ds → length nodes ≤ i
    → IsTrue true ↔ AreShallow nodes
walk_done nodes i d ds tree keeps end = depth_reported nodes true tree (sym (at_drop_all (are_shallow d ds) nodes i end) ∙ keeps.reported)

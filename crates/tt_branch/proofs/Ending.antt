-- What the tree of a search proves at its end.
use Rattle.std.proofs.Common.{◌≡◌, ℕ, ◌+◌, ◌*◌, ◌≤◌, Bool, true, false, List, [], ◌∷◌, ◌++◌, map, Option, Some, None, length, length-append, refl, sym, ap, ◌∙◌, subst, arith}
use Rattle.std.specs.Prelude.{All, Contains}
use Rattle.std.specs.List.{AllZip, list_any, AllByRecursion}
use Rattle.std.proofs.lemmas.Bool.{or_parts}
use Rattle.std.proofs.lemmas.List.{map-append}
use Rattle.std.proofs.lemmas.List.Elements.{All-from_recursion}
use Rattle.tt_list_laws.proofs.Sums.{each_weaker, each_both}
use Rattle.tt_list_laws.proofs.Members.{each_member, at_member}
use Rattle.tt_list_laws.proofs.Tested.{each_append}
use Rattle.tt_list_laws.proofs.Given.{given_member}
use Rattle.tt_list_laws.proofs.Zipped.{zip_each, zip_length}
use Rattle.tt_instance.specs.Problem.{Problem}
use Rattle.tt_instance.specs.declared.cell.Cell.{Cell}
use Rattle.tt_rules.specs.Score.{cost}
use Rattle.tt_path.specs.declared.facts.Fact.{Fact}
use Rattle.tt_path.specs.Live.{least}
use Rattle.tt_path.proofs.Least.{least-le}
use Rattle.tt_leaf_rules.specs.Claims.{total_of}
use Rattle.tt_leaf.specs.declared.leaf.Bound.{Bound}
use Rattle.tt_leaf.specs.declared.leaf.Bound.TheVariants.{AtLeast}
use Rattle.tt_leaf.specs.declared.leaf.Leaf.{Leaf}
use Rattle.tt_proof_read.specs.Trees.{Tree, Tip, Fork, OnPath, on_paths, preorder, with_fact}
use Rattle.tt_proof_read.specs.declared.node.Node.TheVariants as node
use Rattle.tt_proof_check.specs.Derives.{Derives, IsShallowOn}
use Rattle.tt_proof_check.specs.Explains.{IsRightOn, Passes}
use Rattle.tt_proof_check.proofs.Walking.{passed_tree}
use Rattle.tt_leaf_find.specs.Best.{best_claims, best_leaf}
use Rattle.tt_branch.specs.declared.tree_node.NodeState.{NodeState}
use Rattle.tt_branch.specs.declared.tree_node.NodeState.TheVariants.{Split, Closed, Opened, Unopened}
use Rattle.tt_branch.specs.declared.tree_node.TreeNode.{TreeNode}
use Rattle.tt_branch.specs.declared.links.Link.{Link}
use Rattle.tt_branch.specs.Inner.Growing.{node_of, IsKnown, IsSameNode, IsGrown, is_open}
use Rattle.tt_branch.specs.Outcomes.{final_bound}
use Rattle.tt_branch.specs.Proofs.{SplitsWell, node_worth, worths, IsCheaper, IsGreedy}
use Rattle.tt_branch.proofs.Searching.{right_for, best_right, no_worth, worth_reaches, splits_well}

-- ---- the shape of a tree

abbrev splits : Tree → ℕ
splits (Tip leaf) = 0
splits (Fork g a b) = splits a + splits b + 1

pub length-on_paths : (root : List Fact) (tree : Tree) → length (on_paths root tree) ≡ 2 * splits tree + 1
length-on_paths root (Tip leaf) = refl
length-on_paths root (Fork g a b) =
    omega (
      arith,
      length-append (on_paths (with_fact root g true) a) (on_paths (with_fact root g false) b),
      length-on_paths (with_fact root g true) a,
      length-on_paths (with_fact root g false) b,
    )

depth-le : (root : List Fact) (tree : Tree) → AllByRecursion (λ x. length x.path ≤ length root + splits tree) (on_paths root tree)
depth-le root (Tip leaf) = (omega arith, tt)
depth-le root (Fork g a b) =
    let P : OnPath → Type 0 = λ x. length x.path ≤ length root + splits (Fork g a b) in
    let one = λ (holds : Bool). length-append root (record { pattern = g; holds = holds } ∷ []) in
    let first = each_weaker (λ x. length x.path ≤ length (with_fact root g true) + splits a) P (λ x h. omega (arith, one true))
    (on_paths (with_fact root g true) a) (depth-le (with_fact root g true) a) in
    let second = each_weaker (λ x. length x.path ≤ length (with_fact root g false) + splits b) P (λ x h. omega (arith, one false))
    (on_paths (with_fact root g false) b) (depth-le (with_fact root g false) b) in
    (omega arith, each_append P (on_paths (with_fact root g true) a) (on_paths (with_fact root g false) b) first second)

pub preorder-on_paths : (root : List Fact) (tree : Tree) → map (λ x. x.node) (on_paths root tree) ≡ preorder tree
preorder-on_paths root (Tip leaf) = refl
preorder-on_paths root (Fork g a b) =
    ap (λ l. node.Split g ∷ l) (map-append (λ x. x.node) (on_paths (with_fact root g true) a) (on_paths (with_fact root g false) b)
    ∙ ap (λ l. l ++ map (λ x. x.node) (on_paths (with_fact root g false) b)) (preorder-on_paths (with_fact root g true) a)
    ∙ ap (λ l. preorder a ++ l) (preorder-on_paths (with_fact root g false) b))

-- no node is too deep, if the root has few enough facts and the tree few enough nodes
shallow_below : (root : List Fact) (tree : Tree) → 2 * length root + length (on_paths root tree) ≤ 131073
    → AllByRecursion (λ x. length x.path ≤ 65536) (on_paths root tree)
shallow_below root tree h = each_weaker (λ x. length x.path ≤ length root + splits tree) (λ x. length x.path ≤ 65536)
    (λ x k. omega (arith, length-on_paths root tree)) (on_paths root tree) (depth-le root tree)

-- ---- the end

module _ (p : Problem) (root : List Fact) (best : Option (List Cell)) (links : List Link) (tree_nodes : List TreeNode)
    (grown : IsGrown p root best links tree_nodes) where
  abbrev xs : List OnPath
  xs = on_paths root grown.tree

  pub as_many : length xs ≡ length tree_nodes
  as_many = zip_length (IsSameNode p root best links) xs tree_nodes grown.together

  -- no node is too deep, if root and tree have at most as many facts and nodes as in a search
  pub shallow : 2 * length root + length tree_nodes ≤ 131073 → AllByRecursion (λ x. length x.path ≤ 65536) xs
  shallow h = shallow_below root grown.tree (omega (arith, as_many))

  -- the same without the facts of the root
  pub shallow_alone : length tree_nodes ≤ 131073 → AllByRecursion (λ x. length x.path ≤ 65536) (on_paths [] grown.tree)
  shallow_alone h = shallow_below [] grown.tree (omega (arith, as_many, length-on_paths root grown.tree, length-on_paths [] grown.tree))

  pub well_split : All (SplitsWell p) xs
  well_split = All-from_recursion (SplitsWell p) xs
      (zip_each (IsSameNode p root best links) (SplitsWell p) (splits_well p root best links) xs tree_nodes grown.together)

  proved_by : (b : Bound) → 2 * length root + length tree_nodes ≤ 131073 → AllByRecursion (λ x. IsRightOn p b x.path x.node) xs
      → IsShallowOn root grown.tree × Derives p b root grown.tree
  proved_by b h right =
      passed_tree p root b grown.tree
      (All-from_recursion (Passes p b) xs (each_both (λ x. length x.path ≤ 65536) (λ x. IsRightOn p b x.path x.node) xs
      (shallow h) right))

  -- ---- each node is closed

  closed_right : (x : OnPath) (m : NodeState) → x.node ≡ node_of p x.path m → IsKnown p best x.path m → is_open m ≡ false
      → IsRightOn p (final_bound p best) x.path x.node
  closed_right x (Split g) n k e = subst (IsRightOn p (final_bound p best) x.path) (sym n) tt
  closed_right x (Closed leaf) n k e = subst (IsRightOn p (final_bound p best) x.path) (sym n) k.right
  closed_right x (Opened g) n k e = cc
  closed_right x Unopened n k e = cc

  all_closed : (ys : List OnPath) (es : List TreeNode) → AllZip (IsSameNode p root best links) ys es
      → list_any (λ e. is_open e.mark) es ≡ false → AllByRecursion (λ x. IsRightOn p (final_bound p best) x.path x.node) ys
  all_closed [] [] h e = tt
  all_closed [] (m ∷ es) h e = absurd h
  all_closed (y ∷ ys) [] h e = absurd h
  all_closed (y ∷ ys) (m ∷ es) h e =
      let a = or_parts (is_open m.mark) (list_any (λ k. is_open k.mark) es) e in
      (closed_right y m.mark h.0.node h.0.known a.0, all_closed ys es h.1 a.1)

  -- if no node is open, the tree derives the cost of the best timetable, or that no timetable exists
  pub finished_proves : 2 * length root + length tree_nodes ≤ 131073 → list_any (λ e. is_open e.mark) tree_nodes ≡ false
      → IsShallowOn root grown.tree × Derives p (final_bound p best) root grown.tree
  finished_proves h e = proved_by (final_bound p best) h (all_closed xs tree_nodes grown.together e)

  -- ---- some nodes are open

  module _ (v : ℕ) (is_least : least (worths p xs) ≡ Some v) where
    known_right : (x : OnPath) (m : NodeState) → x.node ≡ node_of p x.path m → IsKnown p best x.path m → Contains xs x
        → IsRightOn p (AtLeast v) x.path x.node
    known_right x m is known i = by_mark m is known
      where
        below : (n : ℕ) → node_worth p x.path x.node ≡ Some n → v ≤ n
        below n k = least-le (worths p xs) v n is_least (given_member (λ y. node_worth p y.path y.node) xs x n i k)

        by_best : x.node ≡ node.Leaf (best_leaf p x.path) → IsRightOn p (AtLeast v) x.path x.node
        by_best e = subst (IsRightOn p (AtLeast v) x.path) (sym e)
            (best_right p x.path v (below (total_of p x.path (best_claims p x.path)) (ap (node_worth p x.path) e)))

        by_mark : (n : NodeState) → x.node ≡ node_of p x.path n → IsKnown p best x.path n → IsRightOn p (AtLeast v) x.path x.node
        by_mark (Split g) e k = subst (IsRightOn p (AtLeast v) x.path) (sym e) tt
        by_mark (Closed leaf) e k =
            subst (IsRightOn p (AtLeast v) x.path) (sym e)
            (right_for p x.path (final_bound p best) leaf v k.right (λ n w. below n (ap (node_worth p x.path) e ∙ w)))
        by_mark (Opened g) e k = by_best e
        by_mark Unopened e k = by_best e

    all_known : AllByRecursion (λ x. IsRightOn p (AtLeast v) x.path x.node) xs
    all_known = each_member (λ x. IsRightOn p (AtLeast v) x.path x.node) xs (λ x i.
        let w = at_member (λ y. (e : TreeNode) × IsSameNode p root best links y e) xs x
        (zip_each (IsSameNode p root best links) (λ y. (e : TreeNode) × IsSameNode p root best links y e)
        (λ y e s. (e, s)) xs tree_nodes grown.together) i in
        known_right x w.0.mark w.1.node w.1.known i)

    -- the tree derives the least value of a Cost leaf
    pub unfinished_proves : 2 * length root + length tree_nodes ≤ 131073 → IsShallowOn root grown.tree
        × Derives p (AtLeast v) root grown.tree
    unfinished_proves h = proved_by (AtLeast v) h all_known

  -- -- leaves of a value below the best cost are those of the best claims

  greedy_at : (x : OnPath) (e : TreeNode) → IsSameNode p root best links x e → IsGreedy p best x
  greedy_at x e s n k c = by_mark e.mark s.node s.known
    where
      dear : (o : Option (List Cell)) (leaf : Leaf) → x.node ≡ node.Leaf leaf → IsCheaper p o n
          → (right : IsRightOn p (final_bound p o) x.path (node.Leaf leaf)) → ⊥
      dear None leaf e d right = no_worth p x.path leaf n right (sym (ap (node_worth p x.path) e) ∙ k)
      dear (Some t) leaf e d right = let l = worth_reaches p x.path (cost p t) leaf n right (sym (ap (node_worth p x.path) e) ∙ k) in
          omega arith

      by_mark : (j : NodeState) → x.node ≡ node_of p x.path j → IsKnown p best x.path j → x.node ≡ node.Leaf (best_leaf p x.path)
      by_mark (Split g) e j = let a = sym (ap (node_worth p x.path) e) ∙ k in cc
      by_mark (Closed leaf) e j = absurd (dear best leaf e c j.right)
      by_mark (Opened g) e j = e
      by_mark Unopened e j = e

  pub greedy : All (IsGreedy p best) xs
  greedy = All-from_recursion (IsGreedy p best) xs
      (zip_each (IsSameNode p root best links) (IsGreedy p best) greedy_at xs tree_nodes grown.together)

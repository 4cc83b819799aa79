-- The result of a search that has ended.
use Rattle.std.proofs.Common.{◌≡◌, ℕ, ◌+◌, ◌*◌, ◌≤◌, Bool, true, false, List, [], ◌∷◌, map, length, Option, Some, None, refl, sym, ap, ◌∙◌, subst, arith, ◌||◌}
use Rattle.std.specs.Prelude.{All, IfSome}
use Rattle.std.specs.List.{AllZip, AllByRecursion, list_any, cons_option}
use Rattle.std.proofs.lemmas.List.Elements.{All-from_recursion}
use Rattle.std.proofs.lemmas.List.{length-map}
use Rattle.tt_list_laws.proofs.Sums.{each_both, each_weaker}
use Rattle.tt_list_laws.proofs.Tested.{each_map}
use Rattle.tt_list_laws.proofs.Zipped.{zip_other}
use Rattle.tt_instance.specs.Problem.{Problem}
use Rattle.tt_instance.specs.Limits.{IsInstance}
use Rattle.tt_instance.specs.declared.cell.Cell.{Cell}
use Rattle.tt_rules.specs.Score.{IsFeasible}
use Rattle.tt_path.specs.Facts.{Fits}
use Rattle.tt_path.specs.Live.{least, least_with}
use Rattle.tt_path.specs.declared.facts.Fact.{Fact}
use Rattle.tt_path.proofs.Least.{least_with-le}
use Rattle.tt_leaf_rules.specs.Claims.{total_of}
use Rattle.tt_leaf_rules.specs.Leaves.{IsRight}
use Rattle.tt_leaf_rules.specs.Outcomes.{IsClaimedOnce}
use Rattle.tt_leaf_rules.proofs.Rightness.{targets_once}
use Rattle.tt_leaf.specs.declared.leaf.Bound.{Bound}
use Rattle.tt_leaf.specs.declared.leaf.Bound.TheVariants.{AtLeast, Nothing}
use Rattle.tt_leaf.specs.declared.leaf.Claim.TheVariants.{Days}
use Rattle.tt_leaf.specs.declared.leaf.Leaf.{Leaf}
use Rattle.tt_leaf.specs.declared.leaf.Leaf.TheVariants.{Empty, Many, Clique, Slots, Cost}
use Rattle.tt_proof_read.specs.Spelling.{IsBound}
use Rattle.tt_proof_read.specs.Trees.{preorder, OnPath, on_paths}
use Rattle.tt_proof_read.specs.declared.node.Node.{Node}
use Rattle.tt_proof_read.specs.declared.node.Node.TheVariants as node
use Rattle.tt_proof_read.proofs.Depth.{leaves_low}
use Rattle.tt_proof_write.specs.Within.{HasShortPrices}
use Rattle.tt_proof_check.specs.Derives.{Derives}
use Rattle.tt_proof_check.specs.Nodes.{IsNodeOf}
use Rattle.tt_proof_check.proofs.Reading.{whole_places}
use Rattle.tt_proof_check.proofs.Soundness.{tree_sound}
use Rattle.tt_leaf_find.specs.Best.{best_claims}
use Rattle.tt_leaf_find.proofs.Answering.{best_answer}
use Rattle.tt_leaf_find.proofs.Claims.{once}
use Rattle.tt_branch.specs.declared.best.Best.{Best}
use Rattle.tt_branch.specs.declared.tree_node.NodeState.{NodeState}
use Rattle.tt_branch.specs.declared.tree_node.NodeState.TheVariants.{Split, Closed, Opened, Unopened}
use Rattle.tt_branch.specs.declared.tree_node.TreeNode.{TreeNode}
use Rattle.tt_branch.specs.declared.links.Link.{Link}
use Rattle.tt_branch.specs.declared.search.Search.{Search}
use Rattle.tt_branch.specs.Inner.Growing.{node_of, IsKnown, IsSameNode, IsGrown, is_open, node_at, worth_at, nodes_of, worths_of}
use Rattle.tt_branch.specs.Inner.BestSoFar.{IsBestSoFar, FitsRoot, table_of, Advances}
use Rattle.tt_branch.specs.Inner.Links.{path_at}
use Rattle.tt_branch.specs.Outcomes.{BeginsWell, final_bound, IsOutcome}
use Rattle.tt_branch.specs.Proofs.{node_worth, worths, IsShortNode, IsSearched, shown_bound}
use Rattle.tt_branch.specs.Inner.State.{IsUnderWay, EndsAt}
use Rattle.tt_branch.specs.Inner.Written.{IsOnceNode, IsWritable}
use Rattle.tt_branch.proofs.Ending.{preorder-on_paths, shallow_alone, well_split, finished_proves, unfinished_proves, greedy}
use Rattle.tt_branch.proofs.Advancing.{IsThere, each_there}
use Rattle.tt_branch.proofs.Limits.{cost_limit, total_limit}

-- -- the nodes written

once_closed : (p : Problem) (path : List Fact) (b : Bound) (leaf : Leaf) → IsRight p path b leaf → IsClaimedOnce leaf
once_closed p path b (Empty g) e = tt
once_closed p path b (Many c) e = tt
once_closed p path b (Clique cs) e = tt
once_closed p path b (Slots cs) e = tt
once_closed p path Nothing (Cost claims) e = absurd e
once_closed p path (AtLeast m) (Cost claims) e = targets_once claims e.0

-- the properties of a mark's node
pub record IsFit (p : Problem) (n : Node) : Type 0 where
  pub numbers : IsNodeOf p n
  pub once : IsOnceNode n
  pub short : IsShortNode n

module _ (p : Problem) (ok : IsInstance p) where
  pub fit_mark : (best : Option (List Cell)) (path : List Fact) (m : NodeState) → IsKnown p best path m → IsFit p (node_of p path m)
  fit_mark best path (Split g) k = record { numbers = k.numbers; once = tt; short = tt }
  fit_mark best path (Closed leaf) k = record {
    numbers = k.answer.numbers;
    once = once_closed p path (final_bound p best) leaf k.right;
    short = k.answer.short;
  }
  fit_mark best path (Opened g) k = let a = best_answer p path ok in record {
    numbers = a.numbers;
    once = once Days (λ c. refl) p path;
    short = a.short;
  }
  fit_mark best path Unopened k = let a = best_answer p path ok in record {
    numbers = a.numbers;
    once = once Days (λ c. refl) p path;
    short = a.short;
  }

  module _ (root : List Fact) (best : Option (List Cell)) (links : List Link) (tree_nodes : List TreeNode)
      (grown : IsGrown p root best links tree_nodes) where
    abbrev xs : List OnPath
    xs = on_paths root grown.tree

    fit_tree_node : (x : OnPath) (e : TreeNode) → IsSameNode p root best links x e → IsFit p (node_at p root links e)
    fit_tree_node x e s = subst (λ q. IsFit p (node_of p q e.mark)) (sym s.path) (fit_mark best x.path e.mark s.known)

    each_fit : AllByRecursion (λ e. IsFit p (node_at p root links e)) tree_nodes
    each_fit = zip_other (IsSameNode p root best links) (λ e. IsFit p (node_at p root links e)) fit_tree_node xs tree_nodes grown.together

    pub writable : 2 * length root + length tree_nodes ≤ 131073 → All (IsWritable p root links) tree_nodes
    writable at_most = All-from_recursion (IsWritable p root links) tree_nodes
        (each_weaker (λ e. IsThere p root links e × IsFit p (node_at p root links e)) (IsWritable p root links)
        (λ e h. record { reached = h.0.reached; numbers = h.1.numbers; once = h.1.once }) tree_nodes
        (each_both (IsThere p root links) (λ e. IsFit p (node_at p root links e)) tree_nodes
        (each_there p root best links tree_nodes grown at_most) each_fit))

    -- the nodes written are those of the tree
    same_nodes : (ys : List OnPath) (es : List TreeNode) → AllZip (IsSameNode p root best links) ys es
        → nodes_of p root links es ≡ map (λ x. x.node) ys
    same_nodes [] [] h = refl
    same_nodes [] (e ∷ es) h = absurd h
    same_nodes (y ∷ ys) [] h = absurd h
    same_nodes (y ∷ ys) (e ∷ es) h =
        let a = ap (λ q. node_of p q e.mark) h.0.path ∙ sym h.0.node in
        ap (λ n. n ∷ nodes_of p root links es) a ∙ ap (λ l. y.node ∷ l) (same_nodes ys es h.1)

    pub nodes_are : preorder grown.tree ≡ nodes_of p root links tree_nodes
    nodes_are = sym (preorder-on_paths root grown.tree) ∙ sym (same_nodes xs tree_nodes grown.together)

    same_worths : (ys : List OnPath) (es : List TreeNode) → AllZip (IsSameNode p root best links) ys es
        → worths_of p root links es ≡ worths p ys
    same_worths [] [] h = refl
    same_worths [] (e ∷ es) h = absurd h
    same_worths (y ∷ ys) [] h = absurd h
    same_worths (y ∷ ys) (e ∷ es) h =
        let a = ap (λ q. node_of p q e.mark) h.0.path ∙ sym h.0.node in
        let b : worth_at p root links e ≡ node_worth p y.path y.node = ap (λ q. node_worth p q (node_at p root links e)) h.0.path
        ∙ ap (node_worth p y.path) a in
        ap (λ o. cons_option o (worths_of p root links es)) b ∙ ap (cons_option (node_worth p y.path y.node)) (same_worths ys es h.1)

    pub worths_are : worths_of p root links tree_nodes ≡ worths p xs
    worths_are = same_worths xs tree_nodes grown.together

    pub fit_nodes : AllByRecursion (IsFit p) (nodes_of p root links tree_nodes)
    fit_nodes = each_map (IsFit p) (node_at p root links) tree_nodes each_fit

  -- -- the least value

  -- an open node has a value, and it is at most the maximum bound
  worth_open : (path : List Fact) (m : NodeState) → is_open m ≡ true
      → (n : ℕ) × (node_worth p path (node_of p path m) ≡ Some n) × (n ≤ 1000000000000)
  worth_open path (Split g) k = cc
  worth_open path (Closed leaf) k = cc
  worth_open path (Opened g) k = (total_of p path (best_claims p path), refl, total_limit p ok path)
  worth_open path Unopened k = (total_of p path (best_claims p path), refl, total_limit p ok path)

  least_of : (o : Option ℕ) (ns : List ℕ) (v : ℕ) → least ns ≡ Some v → v ≤ 1000000000000
      → (w : ℕ) × (least (cons_option o ns) ≡ Some w) × (w ≤ 1000000000000)
  least_of None ns v e h = (v, e, h)
  least_of (Some n) ns v e h = let k = ap (least_with n) e in (least_with n (least ns), refl, omega arith)

  -- if a node is open, some leaf has the least value
  pub least_worth : (root : List Fact) (links : List Link) (tree_nodes : List TreeNode)
      → list_any (λ e. is_open e.mark) tree_nodes ≡ true
      → (v : ℕ) × (least (worths_of p root links tree_nodes) ≡ Some v) × (v ≤ 1000000000000)
  least_worth root links [] e = cc
  least_worth root links (x ∷ es) e = by_mark (is_open x.mark) refl e (least_worth root links es)
    where
      by_mark : (b : Bool) → is_open x.mark ≡ b → (b || list_any (λ k. is_open k.mark) es) ≡ true
          → (list_any (λ k. is_open k.mark) es ≡ true → (v : ℕ) × (least (worths_of p root links es) ≡ Some v) × (v ≤ 1000000000000))
          → (v : ℕ) × (least (worths_of p root links (x ∷ es)) ≡ Some v) × (v ≤ 1000000000000)
      by_mark true o k rest =
          let w = worth_open (path_at root links x.link) x.mark o in
          let h = least_with-le w.0 (least (worths_of p root links es)) in (
            least_with w.0 (least (worths_of p root links es)),
            ap (λ j. least (cons_option j (worths_of p root links es))) w.1,
            omega (arith, w.2),
          )
      by_mark false o k rest =
          let w = rest k in
          least_of (worth_at p root links x) (worths_of p root links es) w.0 w.1 w.2

  -- ---- the outcome

  short_prices : (n : Node) → IsShortNode n → HasShortPrices n
  short_prices (node.Split g) s = tt
  short_prices (node.Leaf (Empty g)) s = tt
  short_prices (node.Leaf (Many c)) s = tt
  short_prices (node.Leaf (Clique cs)) s = tt
  short_prices (node.Leaf (Slots cs)) s = tt
  short_prices (node.Leaf (Cost claims)) s = s

  bound_final : (best : Option Best) → IsBestSoFar p best → IsBound (final_bound p (table_of best))
  bound_final None k = tt
  bound_final (Some b) k = cost_limit p ok b.table k.feasible

  best_feasible : (best : Option Best) → IsBestSoFar p best → IfSome (table_of best) (IsFeasible p)
  best_feasible None k = tt
  best_feasible (Some b) k = k.feasible

  best_fits : (root : List Fact) (best : Option Best) → FitsRoot p root best → IfSome (table_of best) (λ t. Fits p t root)
  best_fits root None k = tt
  best_fits root (Some b) k = k

  module _ (root : List Fact) (s : Search) (u : IsUnderWay p root s) (limit : ℕ) (small : length root + limit ≤ 65536) (nodes : List Node)
      (is : nodes ≡ nodes_of p root s.links.items s.tree_nodes.items) where
    abbrev links : List Link
    links = s.links.items

    abbrev tree_nodes : List TreeNode
    tree_nodes = s.tree_nodes.items

    abbrev best : Option (List Cell)
    best = table_of s.best

    spelled : preorder u.grown.tree ≡ nodes
    spelled = nodes_are root best links tree_nodes u.grown ∙ sym is

    as_long : length nodes ≡ length tree_nodes
    as_long = ap length is ∙ length-map tree_nodes (node_at p root links)

    fits : AllByRecursion (IsFit p) nodes
    fits = subst (AllByRecursion (IsFit p)) (sym is) (fit_nodes root best links tree_nodes u.grown)

    pub each_numbers : All (IsNodeOf p) nodes
    each_numbers = All-from_recursion (IsNodeOf p) nodes (each_weaker (IsFit p) (IsNodeOf p) (λ n f. f.numbers) nodes fits)

    searched : (b : Bound) → length tree_nodes ≤ 131071 → IsBound b → Derives p b root u.grown.tree
        → IsSearched p root b u.grown.tree nodes
    searched b at_most bound derives = record {
      spelled = spelled;
      derives = derives;
      splits = well_split p root best links tree_nodes u.grown;
      numbers = each_numbers;
      short = All-from_recursion IsShortNode nodes (each_weaker (IsFit p) IsShortNode (λ n f. f.short) nodes fits);
      within = record {
        bound = bound;
        count = omega (arith, as_long);
        prices = All-from_recursion HasShortPrices nodes (each_weaker (IsFit p) HasShortPrices (λ n f. short_prices n f.short) nodes fits);
        depth = λ tree e.
            leaves_low 65536 tree
            (subst (λ l. All (λ x. length x.path ≤ 65536) l)
            (sym (whole_places [] u.grown.tree nodes spelled) ∙ whole_places [] tree nodes e)
            (All-from_recursion (λ x. length x.path ≤ 65536) (on_paths [] u.grown.tree)
            (shallow_alone p root best links tree_nodes u.grown (omega arith))));
      };
    }

    -- the end of a search
    pub concluded : (given : Option (List Cell)) (finished : Bool) (lowest : Option ℕ) → BeginsWell p root given best
        → EndsAt limit tree_nodes finished
        → (finished ≡ false → lowest ≡ least (worths_of p root links tree_nodes))
        → IsOutcome p root given limit best (shown_bound (final_bound p best) lowest finished) nodes finished
    concluded given true lowest begun ends same =
        let proved = finished_proves p root best links tree_nodes u.grown (omega (arith, ends.1)) ends.0 in
        record {
          feasible = best_feasible s.best u.kept;
          fits = best_fits root s.best u.fits;
          begun = begun;
          tree = u.grown.tree;
          searched = searched (final_bound p best) (omega (arith, ends.1)) (bound_final s.best u.kept) proved.1;
          ends = record { at_most = omega (arith, as_long, ends.1); bound = refl };
          proves = (u.grown.tree, spelled, proved.0, proved.1);
          holds = λ t ok fits. tree_sound p t ok (final_bound p best) root u.grown.tree proved.1 fits;
        }
    concluded given false lowest begun ends same =
        let w = least_worth root links tree_nodes ends.0 in
        let reported : lowest ≡ Some w.0 = same refl ∙ w.1 in
        let shown : shown_bound (final_bound p best) lowest false ≡ AtLeast w.0 =
        ap (λ o. shown_bound (final_bound p best) o false) reported in
        let found : least (worths p (on_paths root u.grown.tree)) ≡ Some w.0 =
        sym (ap least (worths_are root best links tree_nodes u.grown)) ∙ w.1 in
        let bound : IsBound (shown_bound (final_bound p best) lowest false) = subst IsBound (sym shown) w.2 in
        let proved = unfinished_proves p root best links tree_nodes u.grown w.0 found (omega (arith, ends.2)) in
        let derives = subst (λ (b : Bound). Derives p b root u.grown.tree) (sym shown) proved.1 in
        record {
          feasible = best_feasible s.best u.kept;
          fits = best_fits root s.best u.fits;
          begun = begun;
          tree = u.grown.tree;
          searched = searched (shown_bound (final_bound p best) lowest false) (omega (arith, ends.2)) bound derives;
          ends = record {
            enough = omega (arith, as_long, ends.1);
            at_most = omega (arith, as_long, ends.2);
            least_worth = w.0;
            some_cost_leaf = found;
            bound = shown;
            greedy = greedy p root best links tree_nodes u.grown;
          };
          proves = (u.grown.tree, spelled, proved.0, derives);
          holds = λ t ok fits. tree_sound p t ok (shown_bound (final_bound p best) lowest false) root u.grown.tree derives fits;
        }

-- a search that has ended has few enough nodes below its root
pub few_ended : (root : List Fact) (limit : ℕ) (tree_nodes : List TreeNode) (finished : Bool) → length root + limit ≤ 65536
    → EndsAt limit tree_nodes finished → 2 * length root + length tree_nodes ≤ 131073
few_ended root limit tree_nodes true small ends = omega (arith, ends.1)
few_ended root limit tree_nodes false small ends = omega (arith, ends.2)

-- if a search began well, a better timetable preserves this
pub begun_still : (p : Problem) (root : List Fact) (given : Option (List Cell)) (old new : Option Best)
    → BeginsWell p root given (table_of old) → Advances p root old new → BeginsWell p root given (table_of new)
begun_still p root (Some t) old new b a = λ f fits. a.no_dearer t (b f fits)
begun_still p root None old new b a = record {
  start = b.start;
  constructed = b.constructed;
  end = b.end;
  settled = b.settled;
  descent = b.descent;
  kept = λ f fits. a.no_dearer b.end (b.kept f fits);
}

-- The steps of a search preserve the properties of its tree, and its end proves its bound.
use Rattle.std.proofs.Common.{◌≡◌, ℕ, suc, ◌≤◌, Bool, true, false, List, [], ◌∷◌, ◌++◌, length, length-append, Option, Some, None, refl, sym, ap, ◌∙◌, subst, arith}
use Rattle.std.specs.Prelude.{slice_get, ⊤}
use Rattle.std.proofs.lemmas.List.{append-nil}
use Rattle.std.proofs.lemmas.List.Elements.{All-push}
use Rattle.std.specs.List.{AllZip}
use Rattle.tt_list_laws.proofs.Zipped.{zip_cut, zip_append, zip_weaker}
use Rattle.tt_list_laws.proofs.Cuts.{at_first, at_next}
use Rattle.tt_instance.specs.Problem.{Problem}
use Rattle.tt_instance.specs.declared.cell.Cell.{Cell}
use Rattle.tt_rules.specs.Score.{cost}
use Rattle.tt_path.specs.Facts.{IsPattern}
use Rattle.tt_path.specs.declared.facts.Pattern.{Pattern}
use Rattle.tt_path.specs.declared.facts.Fact.{Fact}
use Rattle.tt_leaf_rules.specs.Claims.{total_of}
use Rattle.tt_leaf_rules.specs.Leaves.{IsRight}
use Rattle.tt_leaf.specs.declared.leaf.Bound.{Bound}
use Rattle.tt_leaf.specs.declared.leaf.Bound.TheVariants.{AtLeast, Nothing}
use Rattle.tt_leaf.specs.declared.leaf.Claim.TheVariants.{Days}
use Rattle.tt_leaf.specs.declared.leaf.Leaf.{Leaf}
use Rattle.tt_leaf.specs.declared.leaf.Leaf.TheVariants.{Empty, Many, Clique, Slots, Cost}
use Rattle.tt_proof_read.specs.Trees.{Tip, Fork, OnPath, on_paths, with_fact}
use Rattle.tt_proof_read.specs.declared.node.Node.TheVariants as node
use Rattle.tt_leaf_find.specs.Best.{best_claims, best_leaf}
use Rattle.tt_leaf_find.specs.Found.{ArePatterns}
use Rattle.tt_leaf_find.proofs.Claims.{all_different, all_fair}
use Rattle.tt_branch.specs.declared.tree_node.NodeState.{NodeState}
use Rattle.tt_branch.specs.declared.tree_node.NodeState.TheVariants.{Split, Closed, Opened, Unopened}
use Rattle.tt_branch.specs.declared.tree_node.TreeNode.{TreeNode}
use Rattle.tt_branch.specs.declared.links.Link.{Link}
use Rattle.tt_branch.specs.Inner.Links.{path_at, AreLinks, link_of, divided_links}
use Rattle.tt_branch.specs.Inner.Growing.{node_of, IsKnown, IsSameNode, IsGrown, is_open}
use Rattle.tt_branch.specs.Inner.Steps.{IsSplitInto}
use Rattle.tt_branch.specs.Outcomes.{final_bound}
use Rattle.tt_branch.specs.Proofs.{IsSplitOn, SplitsWell, leaf_worth}
use Rattle.tt_branch.proofs.Chains.{links_more, path_at-next, path_at-more}
use Rattle.tt_branch.proofs.Growing.{on_path, graft}

-- ---- bounds

-- a leaf that is right for a bound is right for each bound that is at most the value of the leaf, if it is a Cost leaf
pub right_for : (p : Problem) (path : List Fact) (b : Bound) (leaf : Leaf) (n : ℕ) → IsRight p path b leaf
    → ((v : ℕ) → leaf_worth p path leaf ≡ Some v → n ≤ v) → IsRight p path (AtLeast n) leaf
right_for p path b (Empty g) n e f = e
right_for p path b (Many c) n e f = e
right_for p path b (Clique cs) n e f = e
right_for p path b (Slots cs) n e f = e
right_for p path Nothing (Cost claims) n e f = absurd e
right_for p path (AtLeast m) (Cost claims) n e f = (e.0, e.1, f (total_of p path claims) refl)

-- the leaf of the best claims is right for its value
pub best_right : (p : Problem) (path : List Fact) (n : ℕ) → n ≤ total_of p path (best_claims p path)
    → IsRight p path (AtLeast n) (best_leaf p path)
best_right p path n h = (all_different Days (λ c. refl) p path, all_fair Days (λ c. refl) p path (λ c. refl), h)

-- the value of a right Cost leaf reaches the bound
pub worth_reaches : (p : Problem) (path : List Fact) (m : ℕ) (leaf : Leaf) (v : ℕ) → IsRight p path (AtLeast m) leaf
    → leaf_worth p path leaf ≡ Some v → m ≤ v
worth_reaches p path m (Empty g) v e k = cc
worth_reaches p path m (Many c) v e k = cc
worth_reaches p path m (Clique cs) v e k = cc
worth_reaches p path m (Slots cs) v e k = cc
worth_reaches p path m (Cost claims) v e k =
    let l = e.2 in
    let same : total_of p path claims ≡ v = cc in
    omega arith

pub no_worth : (p : Problem) (path : List Fact) (leaf : Leaf) (v : ℕ) → IsRight p path Nothing leaf → leaf_worth p path leaf ≡ Some v → ⊥
no_worth p path (Empty g) v e k = cc
no_worth p path (Many c) v e k = cc
no_worth p path (Clique cs) v e k = cc
no_worth p path (Slots cs) v e k = cc
no_worth p path (Cost claims) v e k = absurd e

-- the second timetable is at most as expensive as the best, or there is no best
abbrev pub IsBetter : Problem → Option (List Cell) → List Cell → Type 0
IsBetter p None t = ⊤
IsBetter p (Some u) t = cost p t ≤ cost p u

closes_better : (p : Problem) (path : List Fact) (best : Option (List Cell)) (t : List Cell) (leaf : Leaf) → IsBetter p best t
    → IsRight p path (final_bound p best) leaf → IsRight p path (AtLeast (cost p t)) leaf
closes_better p path None t leaf h e = right_for p path Nothing leaf (cost p t) e (λ v k. absurd (no_worth p path leaf v e k))
closes_better p path (Some u) t leaf h e = right_for p path (AtLeast (cost p u)) leaf (cost p t) e
    (λ v k. omega (arith, worth_reaches p path (cost p u) leaf v e k))

-- ---- steps

-- an open node has the leaf of the best claims
pub open_leaf : (p : Problem) (m : NodeState) (path : List Fact) → is_open m ≡ true → node_of p path m ≡ node.Leaf (best_leaf p path)
open_leaf p (Split g) path e = cc
open_leaf p (Closed leaf) path e = cc
open_leaf p (Opened g) path e = refl
open_leaf p Unopened path e = refl

module _ (p : Problem) (root : List Fact) where
  -- a better timetable was found
  pub grow_better : (best : Option (List Cell)) (t : List Cell) (links : List Link) (tree_nodes : List TreeNode) → IsBetter p best t
      → IsGrown p root best links tree_nodes → IsGrown p root (Some t) links tree_nodes
  grow_better best t links tree_nodes h grown = record {
    tree = grown.tree;
    together = zip_weaker (IsSameNode p root best links) (IsSameNode p root (Some t) links)
        (λ x e s. record { node = s.node; known = by_mark x.path e.mark s.known; link = s.link; path = s.path; patterns = s.patterns })
        (on_paths root grown.tree) tree_nodes grown.together;
  }
    where
      by_mark : (path : List Fact) (m : NodeState) → IsKnown p best path m → IsKnown p (Some t) path m
      by_mark path (Split g) k = k
      by_mark path (Closed leaf) k = record { right = closes_better p path best t leaf h k.right; answer = k.answer }
      by_mark path (Opened g) k = k
      by_mark path Unopened k = tt

  module _ (best : Option (List Cell)) where
    -- further links change nothing
    pub grow_links : (links : List Link) (l : Link) (tree_nodes : List TreeNode) → AreLinks links → IsGrown p root best links tree_nodes
        → IsGrown p root best (links ++ l ∷ []) tree_nodes
    grow_links links l tree_nodes ok grown = record {
      tree = grown.tree;
      together = zip_weaker (IsSameNode p root best links) (IsSameNode p root best (links ++ l ∷ [])) (λ x e s. record {
        node = s.node;
        known = s.known;
        link = omega (arith, s.link, length-append links (l ∷ []));
        path = path_at-more root links (l ∷ []) ok e.link s.link ∙ s.path;
        patterns = s.patterns;
      }) (on_paths root grown.tree) tree_nodes grown.together;
    }

    -- more is known about an open node, on its path
    pub grow_mark : (links : List Link) (before : List TreeNode) (e new : TreeNode) (after : List TreeNode)
        → IsGrown p root best links (before ++ e ∷ after) → is_open e.mark ≡ true → new.link ≡ e.link
        → IsKnown p best (path_at root links e.link) new.mark → (leaf : Leaf)
        → node_of p (path_at root links e.link) new.mark ≡ node.Leaf leaf → IsGrown p root best links (before ++ new ∷ after)
    grow_mark links before e new after grown o same known leaf shown =
        let R = IsSameNode p root best links in
        let w = zip_cut R (on_paths root grown.tree) before e after grown.together in
        let x = w.1 in
        let s = w.5 in
        let k = subst (λ q. IsKnown p best q new.mark) s.path known in
        let l = subst (λ q. node_of p q new.mark ≡ node.Leaf leaf) s.path shown in
        let here = w.3 ∙ ap (λ n. w.0 ++ on_path x.path n ∷ w.2) (s.node ∙ open_leaf p e.mark x.path o) in
        let r = graft root grown.tree w.0 x.path (best_leaf p x.path) w.2 here (Tip leaf) in
        record {
          tree = r.0;
          together =
              subst (λ z. AllZip R z (before ++ new ∷ after)) (sym r.1)
              (zip_append R w.0 before (on_path x.path (node.Leaf leaf) ∷ w.2) (new ∷ after) w.4 (
                record {
                  node = sym l;
                  known = k;
                  link = subst (λ n. n ≤ length links) (sym same) s.link;
                  path = ap (path_at root links) same
                      ∙ s.path;
                  patterns = s.patterns;
                },
                w.6,
              ));
        }

    -- a node that was opened is split
    pub grow_split : (links : List Link) (before : List TreeNode) (e : TreeNode) (after : List TreeNode) (g : Pattern)
        (d a b : TreeNode) → AreLinks links → IsGrown p root best links (before ++ e ∷ after) → e.mark ≡ Opened g
        → IsSplitInto links e g d a b → IsGrown p root best (divided_links links e.link g) (before ++ d ∷ a ∷ b ∷ after)
    grow_split links before e after g d a b ok grown opened new =
        let yes = link_of e.link g true in
        let no = link_of e.link g false in
        let links1 = links ++ yes ∷ [] in
        let links2 = links1 ++ no ∷ [] in
        let first = zip_cut (IsSameNode p root best links) (on_paths root grown.tree) before e after grown.together in
        let inside : e.link ≤ length links = first.5.link in
        let len1 = length-append links (yes ∷ []) in
        let len2 = length-append links1 (no ∷ []) in
        let ok1 = links_more links yes ok inside in
        let ok2 = links_more links1 no ok1 (omega arith) in
        let grown2 = grow_links links1 no (before ++ e ∷ after) ok1 (grow_links links yes (before ++ e ∷ after) ok grown) in
        let R = IsSameNode p root best links2 in
        let w = zip_cut R (on_paths root grown2.tree) before e after grown2.together in
        let x = w.1 in
        let s = w.5 in
        let here = w.3 ∙ ap (λ n. w.0 ++ on_path x.path n ∷ w.2) (s.node ∙ ap (node_of p x.path) opened) in
        let known : IsSplitOn p x.path g = subst (IsKnown p best x.path) opened s.known in
        let yes' = best_leaf p (with_fact x.path g true) in
        let no' = best_leaf p (with_fact x.path g false) in
        let r = graft root grown2.tree w.0 x.path (best_leaf p x.path) w.2 here (Fork g (Tip yes') (Tip no')) in
        let at1 = ap (λ q. q ++ record { pattern = g; holds = true } ∷ []) s.path in
        let at2 = ap (λ q. q ++ record { pattern = g; holds = false } ∷ []) s.path in
        let get1 : slice_get links2 (length links) ≡ Some yes = at_first links1 (no ∷ []) (length links) (omega arith)
        ∙ at_next links yes [] in
        let get2 : slice_get links2 (length links1) ≡ Some no = at_next links1 no [] in
        let place1 : a.link ≡ suc (length links) = omega (arith, new.first_link) in
        let place2 : b.link ≡ suc (length links1) = omega (arith, new.second_link) in
        let patterns = λ (holds : Bool). All-push (λ f. IsPattern p f.pattern) x.path
        (record { pattern = g; holds = holds }) s.patterns known.numbers in
        let top : R (on_path x.path (node.Split g)) d = record {
          node = sym (ap (node_of p x.path) new.divided);
          known = subst (IsKnown p best x.path) (sym new.divided) known;
          link = subst (λ n. n ≤ length links2) (sym new.same_link) s.link;
          path = ap (path_at root links2) new.same_link ∙ s.path;
          patterns = s.patterns;
        } in
        let one : R (on_path (with_fact x.path g true) (node.Leaf yes')) a = record {
          node = sym (ap (node_of p (with_fact x.path g true)) new.first);
          known = subst (IsKnown p best (with_fact x.path g true)) (sym new.first) tt;
          link = omega arith;
          path = ap (path_at root links2) place1 ∙ path_at-next root links2 ok2 (length links) yes get1 ∙ at1;
          patterns = patterns true;
        } in
        let two : R (on_path (with_fact x.path g false) (node.Leaf no')) b = record {
          node = sym (ap (node_of p (with_fact x.path g false)) new.second);
          known = subst (IsKnown p best (with_fact x.path g false)) (sym new.second) tt;
          link = omega arith;
          path = ap (path_at root links2) place2 ∙ path_at-next root links2 ok2 (length links1) no get2 ∙ at2;
          patterns = patterns false;
        } in
        record {
          tree = r.0;
          together =
              subst (λ z. AllZip R z (before ++ d ∷ a ∷ b ∷ after)) (sym r.1)
              (zip_append R w.0 before (on_path x.path (node.Split g) ∷ on_path (with_fact x.path g true) (node.Leaf yes') ∷ on_path
              (with_fact x.path g false) (node.Leaf no') ∷ w.2) (d ∷ a ∷ b ∷ after) w.4
              (top, (one, (two, w.6))));
        }

  -- the tree that consists of the root
  pub grow_root : (best : Option (List Cell)) (e : TreeNode) → ArePatterns p root → e.mark ≡ Unopened → e.link ≡ 0
      → IsGrown p root best [] (e ∷ [])
  grow_root best e patterns m l = record {
    tree = Tip (best_leaf p root);
    together = (
      record {
        node = sym (ap (node_of p root) m);
        known = subst (IsKnown p best root) (sym m) tt;
        link = omega (arith, l);
        path = ap (path_at root []) l ∙ append-nil root;
        patterns = patterns;
      },
      tt,
    );
  }

  -- ---- the end

  -- each split satisfies its condition
  pub splits_well : (best : Option (List Cell)) (links : List Link) (x : OnPath) (e : TreeNode) → IsSameNode p root best links x e
      → SplitsWell p x
  splits_well best links x e s k is = by_mark e.mark s.node s.known
    where
      by_mark : (m : NodeState) → x.node ≡ node_of p x.path m → IsKnown p best x.path m → IsSplitOn p x.path k
      by_mark (Split g) n known = let same : g ≡ k = cc (n, is) in subst (λ q. IsSplitOn p x.path q) same known
      by_mark (Closed leaf) n known = cc
      by_mark (Opened g) n known = cc
      by_mark Unopened n known = cc

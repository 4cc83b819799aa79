-- A better timetable, and nodes that are opened.
use Rattle.std.proofs.Common.{◌≡◌, ℕ, zero, suc, ◌+◌, ◌*◌, ◌≤◌, Bool, true, false, List, [], ◌∷◌, ◌++◌, length, length-append, Option, Some, None, refl, sym, ap, ◌∙◌, subst, arith, append_assoc}
use Rattle.std.proofs.Common.{not, get_or}
use Rattle.std.specs.Prelude.{slice_get, slice_set, IfSome, IsNone}
use Rattle.std.specs.Option.{is_some}
use Rattle.tt_path.specs.declared.facts.Fact.{Fact}
use Rattle.std.specs.List.{AllByRecursion, list_any}
use Rattle.std.proofs.lemmas.List.Sums.{sum_by-append, count_by-le-length}
use Rattle.std.proofs.lemmas.Bool.{or_parts, or_left, or_right}
use Rattle.std.proofs.lemmas.List.Elements.{All-from_recursion, recursion_from_All}
use Rattle.tt_list_laws.proofs.Members.{each_of_append}
use Rattle.std.proofs.lemmas.Option.{get_or_from_slice_get}
use Rattle.tt_list_laws.proofs.Sums.{one_if, count_by-cons}
use Rattle.tt_list_laws.proofs.Zipped.{zip_and, zip_cut, zip_other}
use Rattle.tt_list_laws.proofs.Cuts.{cut_at, set_cut, get_next, get_after}
use Rattle.tt_instance.specs.Problem.{Problem}
use Rattle.tt_instance.specs.declared.cell.Cell.{Cell}
use Rattle.tt_rules.specs.Score.{IsFeasible, cost}
use Rattle.tt_path.specs.Facts.{Holds, Fits}
use Rattle.tt_path.specs.declared.facts.Pattern.{Pattern}
use Rattle.tt_leaf_find.specs.Found.{ArePatterns}
use Rattle.tt_leaf.specs.declared.leaf.Leaf.{Leaf}
use Rattle.tt_proof_read.specs.Trees.{on_paths}
use Rattle.tt_proof_read.specs.declared.node.Node.TheVariants as node
use Rattle.tt_leaf_find.specs.Best.{best_leaf}
use Rattle.tt_branch.specs.declared.best.Best.{Best}
use Rattle.tt_branch.specs.declared.tree_node.NodeState.{NodeState}
use Rattle.tt_branch.specs.declared.tree_node.NodeState.TheVariants.{Split, Closed, Opened, Unopened}
use Rattle.tt_branch.specs.declared.tree_node.TreeNode.{TreeNode}
use Rattle.tt_branch.specs.declared.links.Link.{Link}
use Rattle.tt_branch.specs.declared.search.Search.{Search}
use Rattle.tt_branch.specs.Inner.Growing.{node_of, IsKnown, IsSameNode, IsGrown, was_opened, is_open, IsSingle, HasMark, IsOpenAt, opened_in}
use Rattle.tt_branch.specs.Inner.BestSoFar.{IsBestSoFar, FitsRoot, table_of, Advances}
use Rattle.tt_branch.specs.Inner.Links.{path_at, AreLinks, IsRooted, link_of, divided_links}
use Rattle.tt_branch.specs.Inner.State.{IsSplitAt, MakesWait, EndsAt}
use Rattle.tt_branch.specs.Inner.Written.{IsReached}
use Rattle.tt_branch.proofs.Chains.{links_more}
use Rattle.tt_branch.proofs.Searching.{IsBetter, grow_better, grow_mark, grow_split}
use Rattle.tt_branch.proofs.Ending.{shallow}

-- ---- the best timetable

pub advance_same : (p : Problem) (path : List Fact) (old : Option Best) → IsBestSoFar p old → Advances p path old old
advance_same p path old k = record {
  kept = k;
  grown = λ root links tree_nodes g. g;
  no_dearer = λ t w. w;
  fits = λ root above f. f;
}

pub advance_twice : (p : Problem) (path : List Fact) (old mid new : Option Best) → Advances p path old mid → Advances p path mid new
    → Advances p path old new
advance_twice p path old mid new a b = record {
  kept = b.kept;
  grown = λ root links tree_nodes g. b.grown root links tree_nodes (a.grown root links tree_nodes g);
  no_dearer = λ t w. b.no_dearer t (a.no_dearer t w);
  fits = λ root above f. b.fits root above (a.fits root above f);
}

-- a root above another root of the path is above the path
rooted_twice : (root other path : List Fact) → IsRooted root other → IsRooted other path → IsRooted root path
rooted_twice root other path above r = record {
  below = above.below ++ r.below;
  whole = r.whole ∙ ap (λ l. l ++ r.below) above.whole ∙ append_assoc root above.below r.below;
}

-- a better timetable for a path is one for each root above it
pub advance_above : (p : Problem) (root path : List Fact) (old new : Option Best) → IsRooted root path → Advances p path old new
    → Advances p root old new
advance_above p root path old new r a = record {
  kept = a.kept;
  grown = a.grown;
  no_dearer = a.no_dearer;
  fits = λ other above f. a.fits other (rooted_twice other root path above r) f;
}

-- a timetable that fits a path fits each root above it
fits_above : (p : Problem) (root path : List Fact) (t : List Cell) → IsRooted root path → Fits p t path → Fits p t root
fits_above p root path t r fits =
    let whole = recursion_from_All (Holds p t) (root ++ r.below) (subst (λ (l : List Fact). Fits p t l) r.whole fits) in
    All-from_recursion (Holds p t) root (each_of_append (Holds p t) root r.below whole).0

pub advance_to : (p : Problem) (path : List Fact) (old : Option Best) (new : Best) → IsBetter p (table_of old) new.table
    → IsFeasible p new.table → new.cost ≡ cost p new.table → Fits p new.table path → Advances p path old (Some new)
advance_to p path old new better feasible costs fits = record {
  kept = record { feasible = feasible; cost = costs };
  grown = λ root links tree_nodes g. grow_better p root (table_of old) new.table links tree_nodes better g;
  no_dearer = λ t w.
      let b = subst (λ o. IsBetter p o new.table) w.1 better in
      (new.table, refl, omega (arith, b, w.2));
  fits = λ root above f. fits_above p root path new.table above fits;
}

-- ---- nodes that are reached

-- the facts of a node fit on a path, and their numbers are in the range of the instance
pub record IsThere (p : Problem) (root : List Fact) (links : List Link) (e : TreeNode) : Type 0 where
  pub reached : IsReached root links e.link
  pub patterns : ArePatterns p (path_at root links e.link)

pub each_there : (p : Problem) (root : List Fact) (best : Option (List Cell)) (links : List Link) (tree_nodes : List TreeNode)
    → IsGrown p root best links tree_nodes → 2 * length root + length tree_nodes ≤ 131073
    → AllByRecursion (IsThere p root links) tree_nodes
each_there p root best links tree_nodes grown at_most =
    zip_other (λ x e. IsSameNode p root best links x e × (length x.path ≤ 65536)) (IsThere p root links) (λ x e h. record {
      reached = record { within = h.0.link; depth = subst (λ q. length q ≤ 65536) (sym h.0.path) h.1 };
      patterns = subst (ArePatterns p) (sym h.0.path) h.0.patterns;
    }) (on_paths root grown.tree) tree_nodes
    (zip_and (IsSameNode p root best links) (λ x. length x.path ≤ 65536) (on_paths root grown.tree) tree_nodes
    (shallow p root best links tree_nodes grown at_most) grown.together)

-- ---- opened nodes

count_cut : (before : List TreeNode) (e : TreeNode) (after : List TreeNode) → opened_in (before ++ e ∷ after) ≡ opened_in before +
    (one_if (was_opened e.mark) + opened_in after)
count_cut before e after = omega (
  arith,
  sum_by-append (λ (k : TreeNode). one_if (was_opened k.mark)) before (e ∷ after),
  count_by-cons (λ (k : TreeNode). was_opened k.mark) e after,
)

one_opened : (m : NodeState) → was_opened m ≡ true → one_if (was_opened m) ≡ 1
one_opened m e = ap one_if e

-- a new mark replaces the mark of a node that waits
pub record IsOpening (p : Problem) (root : List Fact) (best : Option Best) (links : List Link) (old new : List TreeNode) : Type 0 where
  pub grown : IsGrown p root (table_of best) links new
  pub opened : opened_in new ≡ opened_in old + 1
  pub many : length new ≡ length old

shown_leaf : (p : Problem) (path : List Fact) (m : NodeState) → IsSingle m → (leaf : Leaf) × (node_of p path m ≡ node.Leaf leaf)
shown_leaf p path (Split g) s = absurd s
shown_leaf p path (Closed leaf) s = (leaf, refl)
shown_leaf p path (Opened g) s = (best_leaf p path, refl)
shown_leaf p path Unopened s = (best_leaf p path, refl)

pub opening : (p : Problem) (root facts : List Fact) (old new : Option Best) (links : List Link) (tree_nodes more : List TreeNode)
    (place : ℕ) (e put : TreeNode) → IsGrown p root (table_of old) links tree_nodes → Advances p facts old new
    → slice_get tree_nodes place ≡ Some e
    → e.mark ≡ Unopened → put.link ≡ e.link → IsKnown p (table_of new) (path_at root links e.link) put.mark
    → was_opened put.mark ≡ true → IsSingle put.mark → more ≡ slice_set tree_nodes place put → IsOpening p root new links tree_nodes more
opening p root facts old new links tree_nodes more place e put grown better at waits same known opened single is =
    let cut = cut_at tree_nodes place e at in
    let before = cut.before in
    let after = cut.after in
    let made : more ≡ before ++ put ∷ after = is ∙ ap (λ l. slice_set l place put) cut.whole
    ∙ ap (λ n. slice_set (before ++ e ∷ after) n put) (sym cut.place) ∙ set_cut before e after put in
    let here = subst (IsGrown p root (table_of new) links) cut.whole (better.grown root links tree_nodes grown) in
    let leaf = shown_leaf p (path_at root links e.link) put.mark single in
    record {
      grown = subst (IsGrown p root (table_of new) links) (sym made)
          (grow_mark p root (table_of new) links before e put after here (ap is_open waits) same known leaf.0 leaf.1);
      opened = omega (
        arith,
        ap opened_in made,
        ap opened_in cut.whole,
        count_cut before put after,
        count_cut before e after,
        one_opened put.mark opened,
        ap (λ m. one_if (was_opened m)) waits,
      );
      many = omega (arith, ap length made, ap length cut.whole, length-append before (put ∷ after), length-append before (e ∷ after));
    }

-- ---- nodes that are split

pub waits_split : (place : ℕ) (g : Pattern) (old new : Search) → IsSplitAt place g old new → MakesWait place old (place + 1) new
waits_split place g old new s =
    let links = old.links.items in
    let yes = link_of s.was.link g true in
    let no = link_of s.was.link g false in
    record {
      under_way = λ p root u.
          let here = subst (IsGrown p root (table_of old.best) links) s.old_tree_nodes u.grown in
          let w = zip_cut (IsSameNode p root (table_of old.best) links) (on_paths root here.tree) s.before s.was s.after here.together in
          let inside : s.was.link ≤ length links = w.5.link in
          let ok = links_more (links ++ yes ∷ []) no (links_more links yes u.links inside)
          (omega (arith, length-append links (yes ∷ []))) in
          record {
            kept = subst (IsBestSoFar p) (sym s.best) u.kept;
            fits = subst (FitsRoot p root) (sym s.best) u.fits;
            links = subst AreLinks (sym s.links) ok;
            grown = subst (λ b. IsGrown p root (table_of b) new.links.items new.tree_nodes.items) (sym s.best)
                (subst (λ l. IsGrown p root (table_of old.best) l new.tree_nodes.items) (sym s.links)
                (subst (IsGrown p root (table_of old.best) (divided_links links s.was.link g)) (sym s.tree_nodes)
                (grow_split p root (table_of old.best) links s.before s.was s.after g s.divided s.first s.second u.links here s.opened
                s.division)));
          };
      waiting = (
        s.first,
        ap (λ (l : List TreeNode). slice_get l (place + 1)) s.tree_nodes
            ∙ ap (slice_get (s.before ++ s.divided ∷ s.first ∷ s.second ∷ s.after)) (omega (arith, s.place_is))
            ∙ get_next s.before s.divided s.first (s.second ∷ s.after),
        s.division.first,
      );
      opened =
          omega (
            arith,
            ap opened_in s.tree_nodes,
            ap opened_in s.old_tree_nodes,
            count_cut s.before s.divided (s.first ∷ s.second ∷ s.after),
            count_cut s.before s.was s.after,
            count_by-cons (λ (k : TreeNode). was_opened k.mark) s.first (s.second ∷ s.after),
            count_by-cons (λ (k : TreeNode). was_opened k.mark) s.second s.after,
            ap (λ m. one_if (was_opened m)) s.division.divided,
            ap (λ m. one_if (was_opened m)) s.opened,
            ap (λ m. one_if (was_opened m)) s.division.first,
            ap (λ m. one_if (was_opened m)) s.division.second,
          );
      many = omega (
        arith,
        ap length s.tree_nodes,
        ap length s.old_tree_nodes,
        length-append s.before (s.divided ∷ s.first ∷ s.second ∷ s.after),
        length-append s.before (s.was ∷ s.after),
      );
      best = s.best;
    }

-- the second child waits, too
pub waits_second : (place : ℕ) (g : Pattern) (old new : Search) → IsSplitAt place g old new → MakesWait place old (place + 2) new
waits_second place g old new s =
    let first = waits_split place g old new s in
    record {
      under_way = first.under_way;
      waiting = (
        s.second,
        ap (λ (l : List TreeNode). slice_get l (place + 2)) s.tree_nodes
            ∙ ap (slice_get (s.before ++ s.divided ∷ s.first ∷ s.second ∷ s.after)) (omega (arith, s.place_is))
            ∙ get_after s.before s.divided s.first s.second s.after,
        s.division.second,
      );
      opened = first.opened;
      many = first.many;
      best = first.best;
    }

pub waits_same : (place : ℕ) (old : Search) → HasMark old.tree_nodes.items place Unopened → MakesWait place old place old
waits_same place old h = record { under_way = λ p root u. u; waiting = h; opened = refl; many = omega arith; best = refl }

-- ---- the end of the rounds

opened_unless : (m : NodeState) → is_open m ≡ false → was_opened m ≡ true
opened_unless (Split g) e = refl
opened_unless (Closed leaf) e = refl
opened_unless (Opened g) e = refl
opened_unless Unopened e = cc

-- if no node is open, each was opened
all_opened : (tree_nodes : List TreeNode) → list_any (λ e. is_open e.mark) tree_nodes ≡ false → opened_in tree_nodes ≡ length tree_nodes
all_opened [] h = refl
all_opened (e ∷ es) h =
    let a = or_parts (is_open e.mark) (list_any (λ k. is_open k.mark) es) h in
    omega (arith, count_by-cons (λ (k : TreeNode). was_opened k.mark) e es, one_opened e.mark (opened_unless e.mark a.0), all_opened es a.1)

pub ends_closed : (limit opened : ℕ) (tree_nodes : List TreeNode) → opened_in tree_nodes ≡ opened → opened ≤ limit
    → list_any (λ e. is_open e.mark) tree_nodes ≡ false → EndsAt limit tree_nodes true
ends_closed limit opened tree_nodes e h none = (none, omega (arith, all_opened tree_nodes none))

pub ends_open : (limit : ℕ) (tree_nodes : List TreeNode) → list_any (λ e. is_open e.mark) tree_nodes ≡ true
    → opened_in tree_nodes ≡ limit → length tree_nodes + 1 ≤ 2 * limit → EndsAt limit tree_nodes false
ends_open limit tree_nodes some e h = (some, omega (arith, count_by-le-length (λ (k : TreeNode). was_opened k.mark) tree_nodes), h)

-- an opening in the form in which the code reads the node and moves the path
pub opening_there : (p q : Problem) (root facts : List Fact) (old new : Option Best) (links : List Link) (tree_nodes more : List TreeNode)
    (place : ℕ) (read put : TreeNode) → q ≡ p → facts ≡ path_at root links read.link → read ≡ get_or tree_nodes place read
    → HasMark tree_nodes place Unopened → IsGrown p root (table_of old) links tree_nodes
    → Advances q facts old new → IsKnown q (table_of new) facts put.mark → was_opened put.mark ≡ true → IsSingle put.mark
    → put.link ≡ read.link → more ≡ slice_set tree_nodes place put → IsOpening p root new links tree_nodes more
opening_there p q root facts old new links tree_nodes more place read put same there is waits grown better known opened single link made =
    let e = waits.0 in
    let met : read.link ≡ e.link = ap (λ (x : TreeNode). x.link) (is ∙ get_or_from_slice_get tree_nodes place e read waits.1) in
    opening p root facts old new links tree_nodes more place e put grown
    (subst (λ (r : Problem). Advances r facts old new) same better) waits.1 waits.2
    (link ∙ met)
    (subst (λ (l : List Fact). IsKnown p (table_of new) l put.mark) (there ∙ ap (path_at root links) met)
    (subst (λ (r : Problem). IsKnown r (table_of new) facts put.mark) same known))
    opened single made

open_any : (q : TreeNode → Bool) (tree_nodes : List TreeNode) (k : ℕ) (e : TreeNode) → slice_get tree_nodes k ≡ Some e → q e ≡ true
    → list_any q tree_nodes ≡ true
open_any q [] k e at o = cc
open_any q (x ∷ xs) zero e at o = let same : x ≡ e = cc in or_left (q x) (list_any q xs) (ap q same ∙ o)
open_any q (x ∷ xs) (suc k) e at o = or_right (q x) (list_any q xs) (open_any q xs k e at o)

-- the end of the rounds at an open node, before the limit
pub ends_early : (opened : ℕ) (tree_nodes : List TreeNode) (place : ℕ) → IsOpenAt tree_nodes place → opened_in tree_nodes ≡ opened
    → length tree_nodes + 1 ≤ 2 * opened → EndsAt opened tree_nodes false
ends_early opened tree_nodes place some e h =
    ends_open opened tree_nodes (open_any (λ x. is_open x.mark) tree_nodes place some.0 some.1 some.2) e h

-- the end of the rounds, by the next open node
pub ends_by : (limit : ℕ) (tree_nodes : List TreeNode) (o : Option ℕ) (r : Bool) → is_some o ≡ not r → IfSome o (IsOpenAt tree_nodes)
    → (IsNone o → list_any (λ e. is_open e.mark) tree_nodes ≡ false) → opened_in tree_nodes ≡ limit → length tree_nodes + 1 ≤ 2 * limit
    → EndsAt limit tree_nodes r
ends_by limit tree_nodes None true d some none e h = ends_closed limit limit tree_nodes e (omega arith) (none refl)
ends_by limit tree_nodes None false d some none e h = cc
ends_by limit tree_nodes (Some k) true d some none e h = cc
ends_by limit tree_nodes (Some k) false d some none e h =
    ends_open limit tree_nodes (open_any (λ x. is_open x.mark) tree_nodes k some.0 some.1 some.2) e h

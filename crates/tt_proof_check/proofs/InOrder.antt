-- Whole lists of nodes that are checked in order, and the errors that are possible for the nodes of a proof.
use Rattle.std.proofs.Common.{◌≡◌, ℕ, zero, suc, ◌+◌, ◌≤◌, ◌<◌, Bool, true, false, List, [], ◌∷◌, ◌++◌, length, take, drop, get_or, Some, Result, Ok, Err, OnOk, refl, sym, ap, ◌∙◌, subst, arith}
use Rattle.std.specs.Prelude.{All, slice_get, IsOkUnless}
use Rattle.std.specs.List.{AllByRecursion}
use Rattle.std.proofs.lemmas.List.{take_all, take-append-drop, length-take-le}
use Rattle.std.proofs.lemmas.List.Elements.{All-from_recursion, recursion_from_All}
use Rattle.tt_text.specs.Stops.{IfFault, is_read_failed}
use Rattle.tt_text.specs.declared.stop.Stop.{Stop}
use Rattle.tt_text.specs.declared.stop.Stop.TheVariants.{Fault, ReadFailed, OutOfMemory}
use Rattle.tt_instance.specs.Problem.{Problem}
use Rattle.tt_path.specs.declared.facts.Fact.{Fact}
use Rattle.tt_path.specs.declared.path.TheConstants.{MAX_FACTS}
use Rattle.tt_leaf.specs.declared.leaf.Bound.{Bound}
use Rattle.tt_leaf_rules.specs.declared.fault.RuleFault.{RuleFault}
use Rattle.tt_leaf_rules.proofs.Rightness.{faultless}
use Rattle.tt_proof_read.specs.Trees.{Tree, Tip, Fork, with_fact, preorder, OnPath, on_paths, IsPreorder}
use Rattle.tt_proof_read.specs.declared.node.Node.{Node}
use Rattle.tt_proof_read.proofs.Depth.{root_low}
use Rattle.tt_proof_check.specs.declared.fault.NodesFault.{NodesFault}
use Rattle.tt_proof_check.specs.declared.fault.NodesFault.TheVariants as reported
use Rattle.tt_proof_check.specs.declared.walk.NodeStop.TheVariants.{Rule, TooDeep}
use Rattle.tt_proof_check.specs.Derives.{Derives, IsShallowOn, Proves, HoldsOfAll}
use Rattle.tt_proof_check.specs.Inner.Steps.{Steps, Stops}
use Rattle.tt_proof_check.specs.Explains.{Passes, FailsAt, IsDeepAt, Explains}
use Rattle.tt_proof_check.proofs.Counting.{take_next, split_at}
use Rattle.tt_proof_check.proofs.Reading.{whole_places}
use Rattle.tt_proof_check.proofs.Soundness.{proof_sound}
use Rattle.tt_proof_check.proofs.Walking.{Walked, walked_due, walked_root, walked_next, walked_tree, fails_at, too_deep, deep_tree}
use Rattle.tt_list_laws.proofs.Tested.{each_append}

-- whether the nodes before the one at i have been checked
abbrev pub Midway : Problem → List Fact → Bound → List Node → ℕ → List Fact → Type 0
Midway p root b nodes i path = (due : Bool) × Walked p root b (take i nodes) path due

module _ (p : Problem) (root : List Fact) (b : Bound) (nodes : List Node) (tree : IsPreorder nodes) (i : ℕ) (n : Node)
    (inside : i < length nodes) (is : n ≡ get_or nodes i n) (path : List Fact) (m : Midway p root b nodes i path) where
  split : preorder tree.0 ≡ take i nodes ++ n ∷ drop (i + 1) nodes
  split = tree.1 ∙ split_at nodes i n inside is

  due : Walked p root b (take i nodes) path true
  due = walked_due p root b (take i nodes) (drop (i + 1) nodes) n path tree.0 split m.0 m.1

  before : length (take i nodes) ≡ i
  before = length-take-le i nodes (omega arith)

  pub midway_next : (next : List Fact) → Steps p (length root) b path n next → length next ≤ 65536 → Midway p root b nodes (i + 1) next
  midway_next next s within =
      let h = walked_next p root b (take i nodes) path next n due s within in
      (h.0, subst (λ (l : List Node). Walked p root b l next h.0) (sym (take_next nodes i n inside is)) h.1)

  pub midway_fails : (f : RuleFault) → Stops p b path n (Rule f) → Explains p root b nodes (reported.Rule i f)
  midway_fails f s = (
    tree.0,
    tree.1,
    subst (λ (k : ℕ). FailsAt p root b tree.0 k f) before
        (fails_at p root b (take i nodes) (drop (i + 1) nodes) path n f tree.0 split due s),
  )

  pub midway_deep : Stops p b path n TooDeep → Explains p root b nodes (reported.TooDeep (i + 1))
  midway_deep s =
      let here = take_next nodes i n inside is in
      let rest : preorder tree.0 ≡ (take i nodes ++ n ∷ []) ++ drop (i + 1) nodes =
      tree.1 ∙ sym (take-append-drop (i + 1) nodes) ∙ ap (λ l. l ++ drop (i + 1) nodes) here in
      let len : length (take i nodes ++ n ∷ []) ≡ i + 1 = ap length (sym here) ∙ length-take-le (i + 1) nodes (omega arith) in (
        tree.0,
        tree.1,
        subst (IsDeepAt p root b tree.0) len (deep_tree p root b (take i nodes ++ n ∷ []) (drop (i + 1) nodes) tree.0 rest
            (too_deep p root b (take i nodes) path n due s)),
      )

-- the path has the facts of the root
pub midway_root : (p : Problem) (root : List Fact) (b : Bound) (nodes : List Node) (i : ℕ) (path : List Fact)
    → Midway p root b nodes i path → length root ≤ length path
midway_root p root b nodes i path m = walked_root p root b (take i nodes) path m.0 m.1

pub midway_end : (p : Problem) (root : List Fact) (b : Bound) (nodes : List Node) → IsPreorder nodes → (i : ℕ) → length nodes ≤ i
    → (path : List Fact) → Midway p root b nodes i path → Proves p root b nodes
midway_end p root b nodes tree i past path m =
    walked_tree p root b nodes path tree.0 tree.1 m.0 (subst (λ (l : List Node). Walked p root b l path m.0) (take_all i nodes past) m.1)

-- -- the converse: if a tree derives the bound, each node passes

passes_on : (p : Problem) (b : Bound) (tree : Tree) (path : List Fact) → IsShallowOn path tree → Derives p b path tree
    → AllByRecursion (Passes p b) (on_paths path tree)
passes_on p b (Tip leaf) path low d = ((low, d), tt)
passes_on p b (Fork g x y) path low d = (
  (root_low MAX_FACTS (Fork g x y) path low, tt),
  each_append (Passes p b) (on_paths (with_fact path g true) x) (on_paths (with_fact path g false) y)
      (passes_on p b x (with_fact path g true) low.0 d.0) (passes_on p b y (with_fact path g false) low.1 d.1),
)

pub tree_passes : (p : Problem) (root : List Fact) (b : Bound) (tree : Tree) → IsShallowOn root tree → Derives p b root tree
    → All (Passes p b) (on_paths root tree)
tree_passes p root b tree shallow d = All-from_recursion (Passes p b) (on_paths root tree) (passes_on p b tree root shallow d)

pub at_place : {X : Type 0} (P : X → Type 0) (xs : List X) (i : ℕ) (x : X) → slice_get xs i ≡ Some x → AllByRecursion P xs → P x
at_place P [] i x e a = cc
at_place P (y ∷ ys) zero x e a = let same : y ≡ x = cc in subst P same a.0
at_place P (y ∷ ys) (suc i) x e a = at_place P ys i x e a.1

-- so no node has an error in another tree that has the same node there
pub never_fails : (p : Problem) (root : List Fact) (b : Bound) (tree other : Tree) (i : ℕ) (f : RuleFault)
    → All (Passes p b) (on_paths root tree) → slice_get (on_paths root tree) i ≡ slice_get (on_paths root other) i
    → ¬ (FailsAt p root b other i f)
never_fails p root b tree other i f all same h =
    let right = (at_place (Passes p b) (on_paths root tree) i _ (same ∙ h.found)
    (recursion_from_All (Passes p b) (on_paths root tree) all)).1 in
    let none = faultless p h.path b h.leaf right in
    let fault = h.fault in
    cc

pub never_deep : (p : Problem) (root : List Fact) (b : Bound) (tree other : Tree) (i : ℕ) → All (Passes p b) (on_paths root tree)
    → slice_get (on_paths root tree) i ≡ slice_get (on_paths root other) i → ¬ (IsDeepAt p root b other i)
never_deep p root b tree other i all same h =
    let within = (at_place (Passes p b) (on_paths root tree) i _ (same ∙ h.found)
    (recursion_from_All (Passes p b) (on_paths root tree) all)).0 in
    omega (arith, within, h.deep)

-- in trees with the same nodes, the node at i has the same path
pub same_at : (root : List Fact) (nodes : List Node) (x y : Tree) (i : ℕ) → preorder x ≡ nodes → preorder y ≡ nodes
    → slice_get (on_paths root x) i ≡ slice_get (on_paths root y) i
same_at root nodes x y i e d = ap (λ (l : List OnPath). slice_get l i) (sym (whole_places root x nodes e) ∙ whole_places root y nodes d)

-- nodes that prove the bound have no fault
proves_faultless : (p : Problem) (root : List Fact) (b : Bound) (nodes : List Node) (e : NodesFault) → Explains p root b nodes e
    → Proves p root b nodes → ⊥
proves_faultless p root b nodes reported.NotATree t h = t (h.0, h.1)
proves_faultless p root b nodes (reported.Rule i f) t h =
    never_fails p root b h.0 t.0 i f (tree_passes p root b h.0 h.2 h.3) (same_at root nodes h.0 t.0 i h.1 t.1) t.2
proves_faultless p root b nodes (reported.TooDeep i) t h =
    never_deep p root b h.0 t.0 i (tree_passes p root b h.0 h.2 h.3) (same_at root nodes h.0 t.0 i h.1 t.1) t.2

pub checked_only : (p : Problem) (root : List Fact) (b : Bound) (nodes : List Node) (r : Result (Unit {0}) (Stop NodesFault))
    → IfFault r (λ e. Explains p root b nodes e) → is_read_failed r ≡ false → Proves p root b nodes → IsOkUnless r OutOfMemory
checked_only p root b nodes (Ok x) t n h = tt
checked_only p root b nodes (Err (Fault e)) t n h = absurd (proves_faultless p root b nodes e t h)
checked_only p root b nodes (Err ReadFailed) t n h = cc
checked_only p root b nodes (Err OutOfMemory) t n h = refl

pub checked_holds : (p : Problem) (b : Bound) (nodes : List Node) (r : Result (Unit {0}) (Stop NodesFault)) → OnOk r (Proves p [] b nodes)
    → OnOk r (HoldsOfAll p b)
checked_holds p b nodes (Ok x) h = proof_sound p b nodes h
checked_holds p b nodes (Err e) h = tt

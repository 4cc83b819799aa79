-- Nodes that are checked in turn, with one path.
use Rattle.std.proofs.Common.{◌≡◌, ℕ, ◌≤◌, ◌<◌, Bool, true, false, List, [], ◌∷◌, ◌++◌, length, take, Some, refl, sym, ap, ◌∙◌, subst, arith, inl, inr, append-nil, take_at, length-append}
use Rattle.std.specs.Prelude.{All, slice_get}
use Rattle.std.specs.List.{AllByRecursion}
use Rattle.std.proofs.lemmas.List.{take_all}
use Rattle.std.proofs.lemmas.List.Elements.{All-push, All-nil, recursion_from_All}
use Rattle.tt_instance.specs.Problem.{Problem}
use Rattle.tt_path.specs.declared.facts.Fact.{Fact}
use Rattle.tt_leaf.specs.declared.leaf.Bound.{Bound}
use Rattle.tt_leaf_rules.specs.declared.fault.RuleFault.{RuleFault}
use Rattle.tt_proof_read.specs.Trees.{Tree, Tip, Fork, with_fact, preorder, OnPath, on_paths}
use Rattle.tt_proof_read.specs.declared.node.Node.{Node}
use Rattle.tt_proof_read.specs.declared.node.Node.TheVariants.{Split, Leaf}
use Rattle.tt_proof_check.specs.declared.walk.NodeStop.{NodeStop}
use Rattle.tt_proof_check.specs.declared.walk.NodeStop.TheVariants.{Rule, TooDeep}
use Rattle.tt_proof_check.specs.Derives.{Derives, IsShallowOn, Proves}
use Rattle.tt_proof_check.specs.Inner.Pending.{pending}
use Rattle.tt_proof_check.specs.Inner.Steps.{Steps, Stops}
use Rattle.tt_proof_check.specs.Explains.{Passes, FailsAt, IsDeepAt}
use Rattle.tt_proof_check.proofs.Places.{root_within, root_stays, pending-none, pending-push}
use Rattle.tt_proof_check.proofs.Reading.{Stack, place, next_stack, stack_after, at, places_of, stack_after-push, places_of-push, length-places_of, whole_places, stack_whole, tree_goes_on, no_tree_goes_on, no_tree_yet, get-behind}
use Rattle.tt_list_laws.proofs.Members.{each_of_append}

-- the open places if the node of a path is due, or if none is
abbrev pub stack_of : ℕ → Bool → List Fact → Stack
stack_of root true path = path ∷ pending root path
stack_of root false path = []

-- Each of the nodes passes, and after them the node of this path, which begins with the root, is due, or none is.
pub record Walked (p : Problem) (root : List Fact) (b : Bound) (nodes : List Node) (path : List Fact) (due : Bool) : Type 0 where
  pub stack : stack_after (place root) nodes ≡ Some (stack_of (length root) due path)
  pub passed : All (Passes p b) (places_of (place root) nodes)
  pub begins : take (length root) path ≡ root
  pub within : length path ≤ 65536

pub walked_start : (p : Problem) (root : List Fact) (b : Bound) → length root ≤ 65536 → Walked p root b [] root true
walked_start p root b h = record {
  stack = ap (λ (l : Stack). Some (root ∷ l)) (sym (pending-none (length root) root (omega arith)));
  passed = All-nil (Passes p b);
  begins = take_all (length root) root (omega arith);
  within = h;
}

-- if a tree has another node, a node is due
pub walked_due : (p : Problem) (root : List Fact) (b : Bound) (nodes rest : List Node) (n : Node) (path : List Fact) (tree : Tree)
    → preorder tree ≡ nodes ++ n ∷ rest → (due : Bool) → Walked p root b nodes path due → Walked p root b nodes path true
walked_due p root b nodes rest n path tree e true w = w
walked_due p root b nodes rest n path tree e false w = absurd (no_tree_goes_on root tree nodes n rest e w.stack)

-- the path has the facts of the root
pub walked_root : (p : Problem) (root : List Fact) (b : Bound) (nodes : List Node) (path : List Fact) (due : Bool)
    → Walked p root b nodes path due → length root ≤ length path
walked_root p root b nodes path due w = root_within root path w.begins

-- -- another node

step_passes : (p : Problem) (root : ℕ) (b : Bound) (path : List Fact) (n : Node) (next : List Fact) → length path ≤ 65536
    → Steps p root b path n next → Passes p b (at path n)
step_passes p root b path (Split g) next h s = (h, tt)
step_passes p root b path (Leaf leaf) next h s = (h, s.0)

-- the facts of the root stay
step_begins : (p : Problem) (root : ℕ) (b : Bound) (path : List Fact) (n : Node) (next : List Fact) → root ≤ length path
    → Steps p root b path n next → take root next ≡ take root path
step_begins p root b path (Split g) next h s = root_stays root next path (record { pattern = g; holds = true }) s h
step_begins p root b path (Leaf leaf) next h s = s.1.0

-- the stack after the node
step_stack : (p : Problem) (root : ℕ) (b : Bound) (path : List Fact) (n : Node) (next : List Fact) → root ≤ length path
    → Steps p root b path n next → (due : Bool) × (next_stack path (pending root path) n ≡ stack_of root due next)
step_stack p root b path (Split g) next h s = (
  true,
  sym (ap (stack_of root true) s ∙ ap (λ l. with_fact path g true ∷ l)
      (pending-push root path (record { pattern = g; holds = true }) h)),
)
step_stack p root b path (Leaf leaf) next h s = elim s.1.1 as (λ _. (due : Bool) × (pending root path ≡ stack_of root due next))
    [ inl e ↦ (false, e) | inr e ↦ (true, e) ]

pub walked_next : (p : Problem) (root : List Fact) (b : Bound) (nodes : List Node) (path next : List Fact) (n : Node)
    → Walked p root b nodes path true → Steps p (length root) b path n next → length next ≤ 65536
    → (due : Bool) × Walked p root b (nodes ++ n ∷ []) next due
walked_next p root b nodes path next n w s within =
    let k = length root in
    let long = walked_root p root b nodes path true w in
    let h = step_stack p k b path n next long s in (
      h.0,
      record {
        stack = stack_after-push root path (pending k path) nodes n w.stack ∙ ap Some h.1;
        passed = subst (λ (l : List OnPath). All (Passes p b) l) (sym (places_of-push root path (pending k path) nodes n w.stack))
            (All-push (Passes p b) (places_of (place root) nodes) (at path n) w.passed (step_passes p k b path n next w.within s));
        begins = step_begins p k b path n next long s ∙ w.begins;
        within = within;
      },
    )

-- -- the same facts for an equal problem, an equal number of facts at the root and an equal bound

pub steps_as : (p q : Problem) (k m : ℕ) (b c : Bound) (path : List Fact) (n : Node) (next : List Fact) → p ≡ q → k ≡ m → b ≡ c
    → Steps p k b path n next → Steps q m c path n next
steps_as p q k m b c path n next e f d h =
    subst (λ (x : Bound). Steps q m x path n next) d
    (subst (λ (x : ℕ). Steps q x b path n next) f (subst (λ (x : Problem). Steps x k b path n next) e h))

pub stops_as : (p q : Problem) (b c : Bound) (path : List Fact) (n : Node) (stop : NodeStop) → p ≡ q → b ≡ c → Stops p b path n stop
    → Stops q c path n stop
stops_as p q b c path n stop e d h = subst (λ (x : Bound). Stops q x path n stop) d (subst (λ (x : Problem). Stops x b path n stop) e h)

-- ---- the end

passed_on : (p : Problem) (b : Bound) (tree : Tree) (path : List Fact) → AllByRecursion (Passes p b) (on_paths path tree)
    → IsShallowOn path tree × Derives p b path tree
passed_on p b (Tip leaf) path a = a.0
passed_on p b (Fork g x y) path a =
    let h = each_of_append (Passes p b) (on_paths (with_fact path g true) x) (on_paths (with_fact path g false) y) a.1 in
    let first = passed_on p b x (with_fact path g true) h.0 in
    let second = passed_on p b y (with_fact path g false) h.1 in
    ((first.0, second.0), (first.1, second.1))

-- a tree whose nodes pass derives the bound, and is not too deep
pub passed_tree : (p : Problem) (root : List Fact) (b : Bound) (tree : Tree) → All (Passes p b) (on_paths root tree)
    → IsShallowOn root tree × Derives p b root tree
passed_tree p root b tree a = passed_on p b tree root (recursion_from_All (Passes p b) (on_paths root tree) a)

-- if no node is due, the nodes are a tree's, and the tree derives the bound
pub walked_end : (p : Problem) (root : List Fact) (b : Bound) (nodes : List Node) (path : List Fact) → Walked p root b nodes path false
    → Proves p root b nodes
walked_end p root b nodes path w =
    let h = stack_whole root nodes w.stack in
    let a = passed_tree p root b h.0 (subst (λ (l : List OnPath). All (Passes p b) l) (whole_places root h.0 nodes h.1) w.passed) in
    (h.0, h.1, a.0, a.1)

-- after all nodes of a tree, no node is due
pub walked_tree : (p : Problem) (root : List Fact) (b : Bound) (nodes : List Node) (path : List Fact) (tree : Tree)
    → preorder tree ≡ nodes → (due : Bool) → Walked p root b nodes path due → Proves p root b nodes
walked_tree p root b nodes path tree e false w = walked_end p root b nodes path w
walked_tree p root b nodes path tree e true w = absurd (no_tree_yet root tree path (pending (length root) path) nodes e w.stack)

-- ---- the first node that does not pass

pub fails_at : (p : Problem) (root : List Fact) (b : Bound) (nodes rest : List Node) (path : List Fact) (n : Node) (f : RuleFault)
    (tree : Tree) → preorder tree ≡ nodes ++ n ∷ rest → Walked p root b nodes path true → Stops p b path n (Rule f)
    → FailsAt p root b tree (length nodes) f
fails_at p root b nodes rest path (Split g) f tree e w s = absurd s
fails_at p root b nodes rest path (Leaf leaf) f tree e w s =
    let others = pending (length root) path in
    let passed = places_of (place root) nodes in
    let behind = places_of others rest in
    let all = tree_goes_on root tree path others nodes (Leaf leaf) rest e w.stack in
    let len = length-places_of (place root) (path ∷ others) nodes w.stack in
    record {
      path = path;
      leaf = leaf;
      found = ap (λ (l : List OnPath). slice_get l (length nodes)) all ∙ get-behind passed (at path (Leaf leaf)) behind (length nodes) len;
      within = w.within;
      fault = s;
      before = subst (λ (l : List OnPath). All (Passes p b) (take (length nodes) l)) (sym all)
          (subst (λ (l : List OnPath). All (Passes p b) l) (sym (take_at passed (at path (Leaf leaf) ∷ behind) (length nodes) len))
          w.passed);
    }

-- nodes that pass, if the node due after them is on a path that is too long
pub record IsDeepNext (p : Problem) (root : List Fact) (b : Bound) (nodes : List Node) : Type 0 where
  pub path : List Fact
  pub others : Stack
  pub stack : stack_after (place root) nodes ≡ Some (path ∷ others)
  pub passed : All (Passes p b) (places_of (place root) nodes)
  pub deep : 65536 < length path

-- the first node is on a root that is too long
pub deep_start : (p : Problem) (root : List Fact) (b : Bound) → 65536 < length root → IsDeepNext p root b []
deep_start p root b h = record { path = root; others = []; stack = refl; passed = All-nil (Passes p b); deep = h }

pub too_deep : (p : Problem) (root : List Fact) (b : Bound) (nodes : List Node) (path : List Fact) (n : Node)
    → Walked p root b nodes path true → Stops p b path n TooDeep → IsDeepNext p root b (nodes ++ n ∷ [])
too_deep p root b nodes path (Split g) w s =
    let others = pending (length root) path in
    record {
      path = with_fact path g true;
      others = with_fact path g false ∷ others;
      stack = stack_after-push root path others nodes (Split g) w.stack;
      passed = subst (λ (l : List OnPath). All (Passes p b) l) (sym (places_of-push root path others nodes (Split g) w.stack))
          (All-push (Passes p b) (places_of (place root) nodes) (at path (Split g)) w.passed (w.within, tt));
      deep = omega (arith, length-append path (record { pattern = g; holds = true } ∷ []), s);
    }
too_deep p root b nodes path (Leaf leaf) w s = absurd s

pub deep_at : (p : Problem) (root : List Fact) (b : Bound) (nodes rest : List Node) (n : Node) (tree : Tree)
    → preorder tree ≡ nodes ++ n ∷ rest → IsDeepNext p root b nodes → IsDeepAt p root b tree (length nodes)
deep_at p root b nodes rest n tree e w =
    let passed = places_of (place root) nodes in
    let behind = places_of (next_stack w.path w.others n) rest in
    let all = tree_goes_on root tree w.path w.others nodes n rest e w.stack in
    let len = length-places_of (place root) (w.path ∷ w.others) nodes w.stack in
    record {
      path = w.path;
      node = n;
      found = ap (λ (l : List OnPath). slice_get l (length nodes)) all ∙ get-behind passed (at w.path n) behind (length nodes) len;
      deep = w.deep;
      before = subst (λ (l : List OnPath). All (Passes p b) (take (length nodes) l)) (sym all)
          (subst (λ (l : List OnPath). All (Passes p b) l) (sym (take_at passed (at w.path n ∷ behind) (length nodes) len)) w.passed);
    }

-- if a tree continues these nodes, it is too deep at the next node
pub deep_tree : (p : Problem) (root : List Fact) (b : Bound) (nodes rest : List Node) (tree : Tree) → preorder tree ≡ nodes ++ rest
    → IsDeepNext p root b nodes → IsDeepAt p root b tree (length nodes)
deep_tree p root b nodes [] tree e w = absurd (no_tree_yet root tree w.path w.others nodes (e ∙ append-nil nodes) w.stack)
deep_tree p root b nodes (n ∷ rest) tree e w = deep_at p root b nodes rest n tree e w

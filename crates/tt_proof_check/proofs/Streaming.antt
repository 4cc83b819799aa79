-- Nodes that are checked as they are read.
use Rattle.std.proofs.Common.{◌≡◌, ℕ, ◌+◌, ◌<◌, ◌≤◌, Bool, true, false, List, [], ◌∷◌, ◌++◌, length, take, Some, None, Result, Ok, Err, refl, sym, ap, subst, ◌∙◌, arith, add-zero, append_assoc, length-append, take_at, inl, inr}
use Rattle.std.specs.Prelude.{All}
use Rattle.tt_text.specs.Feeds.{Stream}
use Rattle.tt_instance.specs.Problem.{Problem}
use Rattle.tt_path.specs.declared.facts.Fact.{Fact}
use Rattle.tt_leaf.specs.declared.leaf.Bound.{Bound}
use Rattle.tt_leaf_rules.specs.declared.fault.RuleFault.{RuleFault}
use Rattle.tt_proof_read.specs.Faults.{is_environmental}
use Rattle.tt_proof_read.specs.Reading.{header_at, node_at}
use Rattle.tt_proof_read.specs.Readers.{Reader, IsReaderAfter, IsReadingOf}
use Rattle.tt_proof_read.specs.Sizes.{AreSizes}
use Rattle.tt_proof_read.specs.Reads.{ReadsNodes}
use Rattle.tt_proof_read.specs.Trees.{preorder, OnPath}
use Rattle.tt_proof_read.specs.declared.fault.TextFault.{TextFault}
use Rattle.tt_proof_read.specs.declared.node.Node.{Node}
use Rattle.tt_proof_read.specs.declared.node.Node.TheVariants.{Leaf}
use Rattle.tt_leaf.specs.declared.leaf.Leaf.TheVariants.{Many}
use Rattle.tt_proof_read.specs.declared.sizes.Sizes.{Sizes}
use Rattle.tt_proof_check.specs.declared.walk.NodeStop.TheVariants.{Rule, TooDeep}
use Rattle.tt_proof_check.specs.declared.fault.CheckFault.{CheckFault}
use Rattle.tt_proof_check.specs.declared.fault.CheckFault.TheVariants as reported
use Rattle.tt_proof_check.specs.Visited.{Visited}
use Rattle.tt_proof_check.specs.Inner.Pending.{pending}
use Rattle.tt_proof_check.specs.Inner.Steps.{Steps, Stops}
use Rattle.tt_proof_check.specs.Inner.CheckedPart.{CheckedPart, ExplainsNodes, ExplainsChild}
use Rattle.tt_proof_check.specs.Streams.{sizes_of, NodeFails, IsProofFault}
use Rattle.tt_proof_check.specs.Explains.{Passes, FailsAt, IsDeepAt}
use Rattle.tt_proof_check.proofs.Counting.{next_places}
use Rattle.tt_proof_check.proofs.Places.{pending-none}
use Rattle.tt_proof_check.proofs.Reading.{Stack, place, next_stack, stack_after, at, places_of, stack_after-push, length-places_of, closing, some_tree, tree_goes_on}
use Rattle.tt_proof_check.proofs.Sizes.{sizes_are}
use Rattle.tt_proof_check.proofs.TextFaults.{told}
use Rattle.tt_proof_check.proofs.Walking.{stack_of, Walked, walked_start, walked_next, walked_end, fails_at, IsDeepNext, deep_start, too_deep, deep_at}

pub reads_push : (sizes : Sizes) (v count : ℕ) (s t u : Stream) (nodes : List Node) (n : Node) → ReadsNodes sizes v count s nodes t
    → node_at sizes v (count + length nodes) t ≡ Ok (n, u) → ReadsNodes sizes v count s (nodes ++ n ∷ []) u
reads_push sizes v count s t u [] n r e = (
  u,
  subst (λ (x : Stream). node_at sizes v count x ≡ Ok (n, u)) (sym r) (ap (λ (k : ℕ). node_at sizes v k t) (sym (add-zero count))
      ∙ e),
  refl,
)
reads_push sizes v count s t u (m ∷ ms) n r e =
    let here : count + length (m ∷ ms) ≡ (count + 1) + length ms = omega arith in
    (r.0, r.1, reads_push sizes v (count + 1) r.0 t u ms n r.2 (ap (λ (k : ℕ). node_at sizes v k t) (sym here) ∙ e))

-- another node is visited
pub visited_push : {X : Type 0} (visits : X → ℕ → Node → X → Type 0) (i : ℕ) (old mid new : X) (k : ℕ) (n : Node) → visits mid k n new
    → (nodes : List Node) → k ≡ i + length nodes → Visited visits i old mid nodes → Visited visits i old new (nodes ++ n ∷ [])
visited_push visits i old mid new k n h [] c e =
    let here : k ≡ i = omega (arith, c) in
    (new, subst (λ x. visits x i n new) e (subst (λ j. visits mid j n new) here h), refl)
visited_push visits i old mid new k n h (m ∷ ms) c e =
    let here : k ≡ (i + 1) + length ms = omega (arith, c) in
    (e.0, e.1, visited_push visits (i + 1) e.0 mid new k n h ms here e.2)

-- The nodes that have been read, checked and visited, in this state of the reader, with this stream after them and the path of the due
-- node.
pub record Sofar (p : Problem) (root : List Fact) (v : ℕ) (b : Bound) (known : Bool) (H : List Node → Type 0) (s : Stream)
    (reader : Reader) (t : Stream) (path : List Fact) : Type 0 where
  pub nodes : List Node
  pub due : Bool
  pub walked : Walked p root b nodes path due
  pub reads : known ≡ true → ReadsNodes (sizes_of p) v 0 s nodes t
  pub count : length nodes ≡ reader.count
  pub places : length (stack_of (length root) due path) ≡ reader.places
  pub sizes : AreSizes p reader.sizes
  pub version : reader.version ≡ v
  pub sound : reader.fault ≡ None
  pub visited : H nodes

pub sofar_start : (p : Problem) (root : List Fact) (b : Bound) (known : Bool) (H : List Node → Type 0) (s : Stream) (reader : Reader)
    → length root ≤ 65536 → reader.count ≡ 0 → reader.places ≡ 1 → AreSizes p reader.sizes → reader.fault ≡ None → H []
    → Sofar p root reader.version b known H s reader s root
sofar_start p root b known H s reader within c d sizes sound visited = record {
  nodes = [];
  due = true;
  walked = walked_start p root b within;
  reads = λ k. refl;
  count = sym c;
  places = ap (λ (l : Stack). length (root ∷ l)) (pending-none (length root) root (omega arith)) ∙ sym d;
  sizes = sizes;
  version = refl;
  sound = sound;
  visited = visited;
}

pub same_length : (x y : Stack) → Some x ≡ Some y → length x ≡ length y
same_length x y e = let same : x ≡ y = cc in ap length same

-- after nodes that pass, a node is due, and its text fails
node_fails : (p : Problem) (root : List Fact) (v : ℕ) (b : Bound) (s t : Stream) (f : TextFault) (nodes : List Node)
    (path : List Fact) (others : Stack)
    → stack_after (place root) nodes ≡ Some (path ∷ others) → All (Passes p b) (places_of (place root) nodes)
    → ReadsNodes (sizes_of p) v 0 s nodes t → node_at (sizes_of p) v (length nodes) t ≡ Err f → NodeFails p root v b s f
node_fails p root v b s t f nodes path others stack passed reads fails =
    let h = some_tree root nodes (path ∷ others) stack in
    let all = tree_goes_on root h.0 path others nodes (Leaf (Many 0)) (closing others) h.1 stack in
    let behind = at path (Leaf (Many 0)) ∷ places_of others (closing others) in
    record {
      nodes = nodes;
      rest = t;
      reads = reads;
      tree = h.0;
      next = Leaf (Many 0);
      more = closing others;
      begins = h.1;
      passed = subst (λ (l : List OnPath). All (Passes p b) l)
          (sym (ap (take (length nodes)) all ∙ take_at (places_of (place root) nodes) behind (length nodes)
          (length-places_of (place root) (path ∷ others) nodes stack))) passed;
      fails = fails;
    }

node_as : (a c : Sizes) (v w count : ℕ) (s : Stream) (P : Result (Node × Stream) TextFault → Type 0) → a ≡ c → v ≡ w
    → P (node_at a v count s) → P (node_at c w count s)
node_as a c v w count s P e d h = subst (λ (k : ℕ). P (node_at c k count s)) d (subst (λ (x : Sizes). P (node_at x v count s)) e h)

child_as : (a c : Sizes) (v w count more : ℕ) (s : Stream) (i : ℕ) (e : CheckFault) → a ≡ c → v ≡ w → count ≡ more
    → ExplainsChild a v count s i e → ExplainsChild c w more s i e
child_as a c v w count more s i e same_sizes same_version same_count h =
    subst (λ (k : ℕ). ExplainsChild c w k s i e) same_count
    (subst (λ (k : ℕ). ExplainsChild c k count s i e) same_version (subst (λ (x : Sizes). ExplainsChild x v count s i e) same_sizes h))

-- after nodes that pass, a node is due on a path that is too long; it has been read, or its text fails
reported_child : (p : Problem) (root : List Fact) (v : ℕ) (b : Bound) (s t : Stream) (nodes : List Node) (i : ℕ)
    → IsDeepNext p root b nodes → length nodes ≡ i
    → ReadsNodes (sizes_of p) v 0 s nodes t → (e : CheckFault) → ExplainsChild (sizes_of p) v i t i e
    → ExplainsNodes p root v b s e
reported_child p root v b s t nodes i d len reads (reported.Text f) c =
    node_fails p root v b s t f nodes d.path d.others d.stack d.passed reads
    (subst (λ (k : ℕ). node_at (sizes_of p) v k t ≡ Err f) (sym len) c)
reported_child p root v b s t nodes i d len reads (reported.Rule j f) c = absurd c
reported_child p root v b s t nodes i d len reads (reported.TooDeep j) c =
    let stack = next_stack d.path d.others c.1 in
    let h = some_tree root (nodes ++ c.1 ∷ []) stack (stack_after-push root d.path d.others nodes c.1 d.stack) in
    let deep = deep_at p root b nodes (closing stack) c.1 h.0 (h.1 ∙ append_assoc nodes (c.1 ∷ []) (closing stack)) d in
    let here : 0 + length nodes ≡ i = omega (arith, len) in
    let number : length nodes ≡ j = len ∙ sym c.0 in
    record {
      nodes = nodes ++ c.1 ∷ [];
      rest = c.2;
      reads = reads_push (sizes_of p) v 0 s t c.2 nodes c.1 reads (ap (λ (k : ℕ). node_at (sizes_of p) v k t) here ∙ c.3);
      tree = h.0;
      more = closing stack;
      begins = h.1;
      last = omega (arith, length-append nodes (c.1 ∷ []), number);
      is = subst (IsDeepAt p root b h.0) number deep;
    }

-- the root is too long for any node: the first has been read, or its text fails
pub root_deep : (p : Problem) (root : List Fact) (s : Stream) (reader : Reader) (e : CheckFault) → 65536 < length root
    → AreSizes p reader.sizes → reader.count ≡ 0 → ExplainsChild reader.sizes reader.version reader.count s 0 e
    → ExplainsNodes p root reader.version reader.bound s e
root_deep p root s reader e long sizes count child =
    reported_child p root reader.version reader.bound s s [] 0 (deep_start p root reader.bound long) refl refl e
    (child_as reader.sizes (sizes_of p) reader.version reader.version reader.count 0 s 0 e (sizes_are p reader.sizes sizes) refl count
    child)

-- a fault of the nodes is one of the proof
pub nodes_fault : (p : Problem) (root : List Fact) (s rest : Stream) (v : ℕ) (b : Bound) (e : CheckFault)
    → header_at s ≡ Ok ((v, b), rest) → ExplainsNodes p root v b rest e → IsProofFault p root s e
nodes_fault p root s rest v b (reported.Text f) header h = inr (v, b, rest, header, inl h)
nodes_fault p root s rest v b (reported.Rule i f) header h = (v, b, rest, header, h)
nodes_fault p root s rest v b (reported.TooDeep i) header h = (v, b, rest, header, h)

module _ (p : Problem) (root : List Fact) (v : ℕ) (b : Bound) (known : Bool) (H : List Node → Type 0) (s : Stream) (old : Reader)
    (t : Stream)
    (path : List Fact) (m : Sofar p root v b known H s old t path) where
  -- if a place is open, a node is due
  is_due : 0 < old.places → Walked p root b m.nodes path true × (length (path ∷ pending (length root) path) ≡ old.places)
  is_due some = on m.due m.walked m.places
    where
      on : (due : Bool) → Walked p root b m.nodes path due → length (stack_of (length root) due path) ≡ old.places
          → Walked p root b m.nodes path true
          × (length (path ∷ pending (length root) path) ≡ old.places)
      on true w e = (w, e)
      on false w e = absurd (omega (arith, e, some))

  one_more : (n : Node) → length (m.nodes ++ n ∷ []) ≡ old.count + 1
  one_more n = omega (arith, length-append m.nodes (n ∷ []), m.count)

  same_sizes : old.sizes ≡ sizes_of p
  same_sizes = sizes_are p old.sizes m.sizes

  -- a node was read, which is checked next
  module _ (new : Reader) (u : Stream) (n : Node) (goes : IsReaderAfter old (Ok (Some n)) new)
      (says : known ≡ true → IsReadingOf old t (Ok (Some n)) u) where
    read_one : known ≡ true → ReadsNodes (sizes_of p) v 0 s (m.nodes ++ n ∷ []) u
    read_one k =
        let here : 0 + length m.nodes ≡ old.count = omega (arith, m.count) in
        let text = node_as old.sizes (sizes_of p) old.version v old.count t (λ r. r ≡ Ok (n, u)) same_sizes m.version (says k) in
        reads_push (sizes_of p) v 0 s t u m.nodes n (m.reads k) (ap (λ (i : ℕ). node_at (sizes_of p) v i t) here ∙ text)

    pub sofar_next : (G : List Node → Type 0) → ((nodes : List Node) → length nodes ≡ old.count → H nodes → G (nodes ++ n ∷ []))
        → (next : List Fact) → Steps p (length root) b path n next → length next ≤ 65536 → Sofar p root v b known G s new u next
    sofar_next G visit next step within =
        let w = is_due goes.0 in
        let h = walked_next p root b m.nodes path next n w.0 step within in
        record {
          nodes = m.nodes ++ n ∷ [];
          due = h.0;
          walked = h.1;
          reads = read_one;
          count = one_more n ∙ ap (λ (r : Reader). r.count) (sym goes.1);
          places = same_length (stack_of (length root) h.0 next) (next_stack path (pending (length root) path) n)
              (sym h.1.stack ∙ stack_after-push root path (pending (length root) path) m.nodes n w.0.stack)
              ∙ next_places path (pending (length root) path) n old.places w.1 ∙ ap (λ (r : Reader). r.places) (sym goes.1);
          sizes = subst (AreSizes p) (ap (λ (r : Reader). r.sizes) (sym goes.1)) m.sizes;
          version = ap (λ (r : Reader). r.version) goes.1 ∙ m.version;
          sound = ap (λ (r : Reader). r.fault) goes.1 ∙ m.sound;
          visited = visit m.nodes m.count m.visited;
        }

    -- the node is a leaf that is not right
    pub sofar_wrong : (i : ℕ) (f : RuleFault) → i ≡ old.count → Stops p b path n (Rule f) → known ≡ true
        → ExplainsNodes p root v b s (reported.Rule i f)
    sofar_wrong i f number stops k =
        let w = (is_due goes.0).0 in
        let stack = next_stack path (pending (length root) path) n in
        let h = some_tree root (m.nodes ++ n ∷ []) stack (stack_after-push root path (pending (length root) path) m.nodes n w.stack) in
        let fails = fails_at p root b m.nodes (closing stack) path n f h.0 (h.1 ∙ append_assoc m.nodes (n ∷ []) (closing stack)) w stops in
        record {
          nodes = m.nodes ++ n ∷ [];
          rest = u;
          reads = read_one k;
          tree = h.0;
          more = closing stack;
          begins = h.1;
          last = one_more n ∙ ap (λ (j : ℕ). j + 1) (sym number);
          is = subst (λ (j : ℕ). FailsAt p root b h.0 j f) (m.count ∙ sym number) fails;
        }

    -- the node is a split whose children are too deep
    pub sofar_deep : (i : ℕ) (e : CheckFault) → i ≡ old.count → Stops p b path n TooDeep → known ≡ true
        → ExplainsChild new.sizes new.version new.count u (i + 1) e → ExplainsNodes p root v b s e
    sofar_deep i e number stops k child =
        let here : new.count ≡ i + 1 = ap (λ (r : Reader). r.count) goes.1 ∙ ap (λ (j : ℕ). j + 1) (sym number) in
        reported_child p root v b s u (m.nodes ++ n ∷ []) (i + 1) (too_deep p root b m.nodes path n (is_due goes.0).0 stops)
        (one_more n ∙ ap (λ (j : ℕ). j + 1) (sym number)) (read_one k) e
        (child_as new.sizes (sizes_of p) new.version v new.count (i + 1) u (i + 1) e (ap (λ (r : Reader). r.sizes) goes.1 ∙ same_sizes)
        (ap (λ (r : Reader). r.version) goes.1 ∙ m.version) here child)

  -- the tree is whole: it derives the bound
  pub sofar_end : (new : Reader) (u : Stream) → IsReaderAfter old (Ok None) new → (known ≡ true → IsReadingOf old t (Ok None) u)
      → CheckedPart p root v b known H s u
  sofar_end new u goes says = on m.due m.walked m.places
    where
      on : (due : Bool) → Walked p root b m.nodes path due → length (stack_of (length root) due path) ≡ old.places
          → CheckedPart p root v b known H s u
      on true w e = absurd (omega (arith, e, goes.0))
      on false w e =
          let h = walked_end p root b m.nodes path w in
          record {
            tree = h.0;
            reads = λ k. subst (λ (x : Stream). ReadsNodes (sizes_of p) v 0 s (preorder h.0) x) (sym (says k))
                (subst (λ (l : List Node). ReadsNodes (sizes_of p) v 0 s l t) (sym h.1) (m.reads k));
            shallow = h.2;
            derives = h.3;
            visited = subst H (sym h.1) m.visited;
          }

  -- the text of the due node fails
  pub sofar_fails : (f : TextFault) → 0 < old.places → known ≡ true → node_at old.sizes old.version old.count t ≡ Err f
      → NodeFails p root v b s f
  sofar_fails f some k fails =
      let w = (is_due some).0 in
      let here = node_as old.sizes (sizes_of p) old.version v old.count t (λ r. r ≡ Err f) same_sizes m.version fails in
      node_fails p root v b s t f m.nodes path (pending (length root) path) w.stack w.passed (m.reads k)
      (ap (λ (i : ℕ). node_at (sizes_of p) v i t) m.count ∙ here)

  -- the reader refuses the text of the due node
  pub sofar_unread : (new : Reader) (u : Stream) (f : TextFault) → IsReaderAfter old (Err f) new → known ≡ true
      → IsReadingOf old t (Err f) u → is_environmental f ≡ false → NodeFails p root v b s f
  sofar_unread new u f goes k says calm =
      sofar_fails f goes.0 k (told f (node_at old.sizes old.version old.count t) calm says)

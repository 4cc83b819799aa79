-- Two faults of the same text are equal.
use Rattle.std.proofs.Common.{◌≡◌, ℕ, zero, suc, ◌+◌, ◌<◌, List, [], ◌∷◌, ◌++◌, length, take, Option, Some, None, Result, Err, refl, sym, ap, subst, ◌∙◌, arith, append_assoc, append-nil, ◌⊎◌, inl, inr}
use Rattle.std.specs.Prelude.{All, slice_get}
use Rattle.std.specs.List.{AllByRecursion}
use Rattle.std.proofs.lemmas.Bool.{cases_order}
use Rattle.std.proofs.lemmas.List.{length-append}
use Rattle.std.proofs.lemmas.List.Elements.{recursion_from_All}
use Rattle.tt_text.specs.Feeds.{Stream}
use Rattle.tt_instance.specs.Problem.{Problem}
use Rattle.tt_instance_read.specs.Reading.{instance_of}
use Rattle.tt_instance.specs.Spelling.{Spells}
use Rattle.tt_instance_read.specs.declared.fault.InstanceFault.{InstanceFault}
use Rattle.tt_instance_read.proofs.Laws.{is_read, spelled_once}
use Rattle.tt_table.specs.Reading.{solution_of}
use Rattle.tt_table.specs.declared.fault.SolutionFault.{SolutionFault}
use Rattle.tt_path.specs.declared.facts.Fact.{Fact}
use Rattle.tt_leaf_rules.specs.Faults.{fault_of}
use Rattle.tt_leaf.specs.declared.leaf.Bound.{Bound}
use Rattle.tt_leaf.specs.declared.leaf.Leaf.{Leaf}
use Rattle.tt_leaf_rules.specs.declared.fault.RuleFault.{RuleFault}
use Rattle.tt_leaf_rules.proofs.Rightness.{faultless}
use Rattle.tt_proof_read.specs.Reading.{header_at, node_at, end_at}
use Rattle.tt_proof_read.specs.Reads.{ReadsNodes}
use Rattle.tt_proof_read.specs.Trees.{Tree, preorder, OnPath, on_paths}
use Rattle.tt_proof_read.specs.declared.fault.TextFault.{TextFault}
use Rattle.tt_proof_read.specs.declared.node.Node.{Node}
use Rattle.tt_proof_read.specs.declared.node.Node.TheVariants as node
use Rattle.tt_proof_check.specs.declared.fault.CheckFault.{CheckFault}
use Rattle.tt_proof_check.specs.declared.fault.CheckFault.TheVariants as reported
use Rattle.tt_proof_check.specs.declared.fault.CertifyFault.{CertifyFault}
use Rattle.tt_proof_check.specs.declared.fault.CertifyFault.TheVariants as fault
use Rattle.tt_proof_check.specs.Streams.{stream_of, sizes_of, NodeFails, EndFails, IsReadTo, HasHeader, IsProofFault}
use Rattle.tt_proof_check.specs.Explains.{Passes, FailsAt, IsDeepAt}
use Rattle.tt_proof_check.specs.Verdicts.{FailsSolution, FailsProof, IsFirstFault}
use Rattle.tt_proof_check.proofs.Determined.{begins_whole, same_header, compare, same_place}
use Rattle.tt_proof_check.proofs.Files.{files_faultless}
use Rattle.tt_proof_check.proofs.InOrder.{at_place, tree_passes}
use Rattle.tt_proof_check.proofs.Texts.{only_one, node_read, place_read}

-- two faults of one reading
one_reading : {Y : Type 0} (read : Result Y TextFault) (f g : TextFault) → read ≡ Err f → read ≡ Err g → f ≡ g
one_reading read f g h k = cc

-- ---- the first node that doesn't pass

record Stops (p : Problem) (root : List Fact) (b : Bound) (tree : Tree) (i : ℕ) : Type 0 where
  at : OnPath
  found : slice_get (on_paths root tree) i ≡ Some at
  stops : ¬ (Passes p b at)
  before : All (Passes p b) (take i (on_paths root tree))

stops_by_fault : (p : Problem) (root : List Fact) (b : Bound) (tree : Tree) (i : ℕ) (f : RuleFault) → FailsAt p root b tree i f
    → Stops p root b tree i
stops_by_fault p root b tree i f h = record {
  at = record { path = h.path; node = node.Leaf h.leaf };
  found = h.found;
  stops = λ passes. faulty (faultless p h.path b h.leaf passes.1);
  before = h.before;
}
  where
    faulty : ¬ (fault_of p h.path b h.leaf ≡ None)
    faulty none = let fault = h.fault in cc

stops_by_depth : (p : Problem) (root : List Fact) (b : Bound) (tree : Tree) (i : ℕ) → IsDeepAt p root b tree i → Stops p root b tree i
stops_by_depth p root b tree i h = record {
  at = record { path = h.path; node = h.node };
  found = h.found;
  stops = λ passes. omega (arith, passes.0, h.deep);
  before = h.before;
}

-- a property of each of the first elements holds for any of them
at_first : {X : Type 0} (P : X → Type 0) (n : ℕ) (xs : List X) (i : ℕ) (x : X) → i < n → slice_get xs i ≡ Some x
    → AllByRecursion P (take n xs) → P x
at_first P zero xs i x h e a = absurd (omega (arith, h))
at_first P (suc n) [] i x h e a = cc
at_first P (suc n) (y ∷ ys) zero x h e a = let same : y ≡ x = cc in subst P same a.0
at_first P (suc n) (y ∷ ys) (suc i) x h e a = at_first P n ys i x (omega (arith, h)) e a.1

-- if the first n nodes of a tree pass, another tree with the same node at i below n does not stop at i
none_stops : (p : Problem) (root : List Fact) (b : Bound) (tree other : Tree) (n i : ℕ) → i < n
    → All (Passes p b) (take n (on_paths root tree)) → slice_get (on_paths root tree) i ≡ slice_get (on_paths root other) i
    → ¬ (Stops p root b other i)
none_stops p root b tree other n i h all same s =
    s.stops (at_first (Passes p b) n (on_paths root tree) i s.at h (same ∙ s.found)
    (recursion_from_All (Passes p b) (take n (on_paths root tree)) all))

-- ---- two trees that begin with nodes of one stream

-- nodes that a stream gives, and a tree that begins with them
record Begun (p : Problem) (v : ℕ) (s : Stream) : Type 0 where
  nodes : List Node
  rest : Stream
  reads : ReadsNodes (sizes_of p) v 0 s nodes rest
  tree : Tree
  more : List Node
  begins : preorder tree ≡ nodes ++ more

abbrev begun_to : (p : Problem) (v : ℕ) (s : Stream) (i : ℕ) (P : Tree → Type 0) → IsReadTo p v s i P → Begun p v s
begun_to p v s i P h = record { nodes = h.nodes; rest = h.rest; reads = h.reads; tree = h.tree; more = h.more; begins = h.begins }

abbrev begun_before : (p : Problem) (root : List Fact) (v : ℕ) (b : Bound) (s : Stream) (f : TextFault) → NodeFails p root v b s f
    → Begun p v s
begun_before p root v b s f h = record {
  nodes = h.nodes;
  rest = h.rest;
  reads = h.reads;
  tree = h.tree;
  more = h.next ∷ h.more;
  begins = h.begins;
}

module _ (p : Problem) (root : List Fact) (v : ℕ) (b : Bound) (s : Stream) where
  -- a node that both trees have is on the same path in both
  one_place : (x y : Begun p v s) (i : ℕ) → i < length x.nodes → i < length y.nodes
      → slice_get (on_paths root x.tree) i ≡ slice_get (on_paths root y.tree) i
  one_place x y i h k = elim (compare (sizes_of p) v 0 s x.rest y.rest x.nodes y.nodes x.reads y.reads) [
    | inl m ↦ same_place root x.tree y.tree x.nodes x.more (m.0 ++ y.more) i x.begins (longer y x m.0 m.1) h
    | inr m ↦ same_place root x.tree y.tree y.nodes (m.0 ++ x.more) y.more i (longer x y m.0 m.1) y.begins k
  ]
    where
      longer : (z w : Begun p v s) (more : List Node) → w.nodes ++ more ≡ z.nodes → preorder z.tree ≡ w.nodes ++ (more ++ z.more)
      longer z w more e = z.begins ∙ ap (λ l. l ++ z.more) (sym e) ∙ append_assoc w.nodes more z.more

  -- the first node that doesn't pass is the same
  one_stop : (x y : Begun p v s) (i j : ℕ) → length x.nodes ≡ i + 1 → length y.nodes ≡ j + 1 → Stops p root b x.tree i
      → Stops p root b y.tree j → ¬ (i < j)
  one_stop x y i j h k a c less =
      none_stops p root b y.tree x.tree j i less c.before (one_place y x i (omega (arith, k, less)) (omega (arith, h))) a

  -- the text of a node that has been read has no fault
  node_first : (f : TextFault) (k : ℕ) (nodes : List Node) (rest after : Stream) (x : Node)
      (xs : List Node) → length nodes ≡ k → ReadsNodes (sizes_of p) v (0 + length nodes) rest (x ∷ xs) after
      → node_at (sizes_of p) v k rest ≡ Err f → ⊥
  node_first f k nodes rest after x xs e r fails =
      let here : k ≡ 0 + length nodes = omega (arith, e) in
      only_one (node_at (sizes_of p) v k rest) (x, r.0) f (ap (λ (c : ℕ). node_at (sizes_of p) v c rest) here ∙ r.1) fails

  nodes_fail : (f g : TextFault) → NodeFails p root v b s f → NodeFails p root v b s g → f ≡ g
  nodes_fail f g a c = elim (compare (sizes_of p) v 0 s a.rest c.rest a.nodes c.nodes a.reads c.reads) [
    | inl d ↦ onward f g a c d.0 d.1 d.2
    | inr d ↦ sym (onward g f c a d.0 d.1 d.2)
  ]
    where
      onward : (f g : TextFault) (a : NodeFails p root v b s f) (c : NodeFails p root v b s g) (more : List Node)
          → a.nodes ++ more ≡ c.nodes
          → ReadsNodes (sizes_of p) v (0 + length a.nodes) a.rest more c.rest → f ≡ g
      onward f g a c [] e r =
          let len : length c.nodes ≡ length a.nodes = ap length (sym e ∙ append-nil a.nodes) in
          one_reading (node_at (sizes_of p) v (length a.nodes) a.rest) f g a.fails
          (subst (λ (x : Stream). node_at (sizes_of p) v (length a.nodes) x ≡ Err g) (sym r)
          (subst (λ (k : ℕ). node_at (sizes_of p) v k c.rest ≡ Err g) len c.fails))
      onward f g a c (x ∷ xs) e r = absurd (node_first f (length a.nodes) a.nodes a.rest c.rest x xs refl r a.fails)

  ends_fail : (f g : TextFault) → EndFails p root v b s f → EndFails p root v b s g → f ≡ g
  ends_fail f g a c = one_reading (end_at a.rest) f g a.fails (subst (λ (x : Stream). end_at x ≡ Err g) (sym same) c.fails)
    where
      none : (k : ℕ) (x y : Stream) (more : List Node) → [] ≡ more → ReadsNodes (sizes_of p) v k x more y → x ≡ y
      none k x y more e r = subst (λ (l : List Node). ReadsNodes (sizes_of p) v k x l y) (sym e) r

      same : a.rest ≡ c.rest
      same = elim (compare (sizes_of p) v 0 s a.rest c.rest (preorder a.tree) (preorder c.tree) a.reads c.reads) [
        | inl d ↦ none (0 + length (preorder a.tree)) a.rest c.rest d.0 (begins_whole c.tree a.tree d.0 (sym d.1)).1 d.2
        | inr d ↦ sym (none (0 + length (preorder c.tree)) c.rest a.rest d.0 (begins_whole a.tree c.tree d.0 (sym d.1)).1 d.2)
      ]

  node_or_end : (f g : TextFault) → NodeFails p root v b s f → EndFails p root v b s g → ⊥
  node_or_end f g a c = node_read p v s c.rest c.tree c.reads f a.nodes a.rest a.tree a.next a.more a.reads a.begins a.fails

  texts_fail : (f g : TextFault) → (NodeFails p root v b s f ⊎ EndFails p root v b s f)
      → (NodeFails p root v b s g ⊎ EndFails p root v b s g) → f ≡ g
  texts_fail f g (inl a) (inl c) = nodes_fail f g a c
  texts_fail f g (inl a) (inr c) = absurd (node_or_end f g a c)
  texts_fail f g (inr a) (inl c) = absurd (node_or_end g f c a)
  texts_fail f g (inr a) (inr c) = ends_fail f g a c

  -- before a node that doesn't pass, all texts are read
  text_passes : (f : TextFault) → (NodeFails p root v b s f ⊎ EndFails p root v b s f)
      → (i : ℕ) (P : Tree → Type 0) (c : IsReadTo p v s i P) → Stops p root b c.tree i → ⊥
  text_passes f (inr a) i P c stops = stops.stops (passes (place_read p v s a.rest a.tree a.reads root i P c ∙ stops.found))
    where
      all : AllByRecursion (Passes p b) (on_paths root a.tree)
      all = recursion_from_All (Passes p b) (on_paths root a.tree) (tree_passes p root b a.tree a.shallow a.derives)

      passes : slice_get (on_paths root a.tree) i ≡ Some stops.at → Passes p b stops.at
      passes e = at_place (Passes p b) (on_paths root a.tree) i stops.at e all
  text_passes f (inl a) i P c stops = elim (compare (sizes_of p) v 0 s a.rest c.rest a.nodes c.nodes a.reads c.reads) [
    | inl d ↦ onward d.0 d.1 d.2
    | inr d ↦ passed (omega (arith, ap length d.1, length-append c.nodes d.0, c.last))
  ]
    where
      passed : ¬ (i < length a.nodes)
      passed h = none_stops p root b a.tree c.tree (length a.nodes) i h a.passed
          (one_place (begun_before p root v b s f a) (begun_to p v s i P c) i h (omega (arith, c.last))) stops

      onward : (more : List Node) → a.nodes ++ more ≡ c.nodes → ReadsNodes (sizes_of p) v (0 + length a.nodes) a.rest more c.rest → ⊥
      onward [] e r = passed (omega (arith, ap length (sym (append-nil a.nodes) ∙ e), c.last))
      onward (x ∷ xs) e r = node_first f (length a.nodes) a.nodes a.rest c.rest x xs refl r a.fails

-- ---- two nodes that don't pass

abbrev some_point : OnPath → Option OnPath
some_point x = Some x

one_point : (x y : OnPath) → some_point x ≡ some_point y → x ≡ y
one_point x y e = cc

-- a leaf has only one first error on its path
one_first : (p : Problem) (b : Bound) (x y : List Fact) (l m : Leaf) (f g : RuleFault) → node.Leaf l ≡ node.Leaf m → x ≡ y
    → fault_of p x b l ≡ Some f → fault_of p y b m ≡ Some g → f ≡ g
one_first p b x y l m f g same path h k = cc

module _ (p : Problem) (root : List Fact) (v : ℕ) (b : Bound) (s : Stream) where
  -- a property of trees that stop at a node
  abbrev StopsAt : ℕ → (Tree → Type 0) → Type 0
  StopsAt i P = (tree : Tree) → P tree → Stops p root b tree i

  by_fault : (i : ℕ) (f : RuleFault) → StopsAt i (λ t. FailsAt p root b t i f)
  by_fault i f tree h = stops_by_fault p root b tree i f h

  by_depth : (i : ℕ) → StopsAt i (λ t. IsDeepAt p root b t i)
  by_depth i tree h = stops_by_depth p root b tree i h

  -- both trees stop at the same node, on the same path
  meets : (i j : ℕ) (P Q : Tree → Type 0) → StopsAt i P → StopsAt j Q → (a : IsReadTo p v s i P) (c : IsReadTo p v s j Q)
      → (i ≡ j) × (slice_get (on_paths root a.tree) i ≡ slice_get (on_paths root c.tree) j)
  meets i j P Q stops ends a c = elim (cases_order i j) [
    | inl same ↦ (
      same,
      one_place p root v b s (begun_to p v s i P a) (begun_to p v s j Q c) i (omega (arith, a.last))
          (omega (arith, same, c.last)) ∙ ap (slice_get (on_paths root c.tree)) same,
    )
    | inr (inl less) ↦ absurd (one_stop p root v b s (begun_to p v s i P a) (begun_to p v s j Q c) i j a.last c.last (stops a.tree a.is)
        (ends c.tree c.is) less)
    | inr (inr less) ↦ absurd (one_stop p root v b s (begun_to p v s j Q c) (begun_to p v s i P a) j i c.last a.last (ends c.tree c.is)
        (stops a.tree a.is) less)
  ]

  rules_fail : (i j : ℕ) (f g : RuleFault) → IsReadTo p v s i (λ t. FailsAt p root b t i f) → IsReadTo p v s j (λ t. FailsAt p root b t j g)
      → reported.Rule i f ≡ reported.Rule j g
  rules_fail i j f g a c =
      let m = meets i j (λ t. FailsAt p root b t i f) (λ t. FailsAt p root b t j g) (by_fault i f) (by_fault j g) a c in
      let point = one_point (record { path = a.is.path; node = node.Leaf a.is.leaf })
      (record { path = c.is.path; node = node.Leaf c.is.leaf }) (sym a.is.found ∙ m.1 ∙ c.is.found) in
      let same : f ≡ g = one_first p b a.is.path c.is.path a.is.leaf c.is.leaf f g (ap (λ (x : OnPath). x.node) point)
      (ap (λ (x : OnPath). x.path) point) a.is.fault c.is.fault in
      ap (λ k. reported.Rule k f) m.0 ∙ ap (reported.Rule j) same

  depths_fail : (i j : ℕ) → IsReadTo p v s i (λ t. IsDeepAt p root b t i) → IsReadTo p v s j (λ t. IsDeepAt p root b t j)
      → reported.TooDeep i ≡ reported.TooDeep j
  depths_fail i j a c =
      ap reported.TooDeep (meets i j (λ t. IsDeepAt p root b t i) (λ t. IsDeepAt p root b t j) (by_depth i) (by_depth j) a c).0

  -- a leaf whose rule is checked isn't too deep
  rule_or_depth : (i j : ℕ) (f : RuleFault) → IsReadTo p v s i (λ t. FailsAt p root b t i f)
      → IsReadTo p v s j (λ t. IsDeepAt p root b t j) → ⊥
  rule_or_depth i j f a c =
      let m = meets i j (λ t. FailsAt p root b t i f) (λ t. IsDeepAt p root b t j) (by_fault i f) (by_depth j) a c in
      let point = one_point (record { path = a.is.path; node = node.Leaf a.is.leaf }) (record { path = c.is.path; node = c.is.node })
      (sym a.is.found ∙ m.1 ∙ c.is.found) in
      let len : length a.is.path ≡ length c.is.path = ap (λ (x : OnPath). length x.path) point in
      omega (arith, len, a.is.within, c.is.deep)

-- ---- whole texts

-- a conclusion from two headers of one stream needs only the case of one header
one_header : (P Q : ℕ → Bound → Stream → Type 0) (Z : Type 0) (s : Stream)
    → ((v : ℕ) (b : Bound) (rest : Stream) → P v b rest → Q v b rest → Z) → HasHeader s P → HasHeader s Q → Z
one_header P Q Z s f h k =
    let same = same_header ((k.0, k.1), k.2) ((h.0, h.1), h.2) (sym k.3 ∙ h.3) in
    f h.0 h.1 h.2 h.4 (subst (λ (x : (ℕ × Bound) × Stream). Q x.0.0 x.0.1 x.1) same k.4)

abbrev FailsAfter : Problem → List Fact → TextFault → ℕ → Bound → Stream → Type 0
FailsAfter p root f v b rest = NodeFails p root v b rest f ⊎ EndFails p root v b rest f

-- a header that is read has no fault
header_read : (P : ℕ → Bound → Stream → Type 0) (s : Stream) (f : TextFault) → header_at s ≡ Err f → HasHeader s P → ⊥
header_read P s f h k = only_one (header_at s) ((k.0, k.1), k.2) f k.3 h

texts_one : (p : Problem) (root : List Fact) (s : Stream) (f g : TextFault) → IsProofFault p root s (reported.Text f)
    → IsProofFault p root s (reported.Text g) → f ≡ g
texts_one p root s f g (inl h) (inl k) = one_reading (header_at s) f g h k
texts_one p root s f g (inl h) (inr k) = absurd (header_read (FailsAfter p root g) s f h k)
texts_one p root s f g (inr h) (inl k) = absurd (header_read (FailsAfter p root f) s g k h)
texts_one p root s f g (inr h) (inr k) = one_header (FailsAfter p root f) (FailsAfter p root g) (f ≡ g) s
    (λ v b rest x y. texts_fail p root v b rest f g x y) h k

text_one : (p : Problem) (root : List Fact) (s : Stream) (f : TextFault) (i : ℕ) (P : Bound → Tree → Type 0)
    → ((b : Bound) (tree : Tree) → P b tree → Stops p root b tree i) → IsProofFault p root s (reported.Text f)
    → HasHeader s (λ v b rest. IsReadTo p v rest i (P b)) → ⊥
text_one p root s f i P stops (inl h) k = header_read (λ v b rest. IsReadTo p v rest i (P b)) s f h k
text_one p root s f i P stops (inr h) k =
    one_header (FailsAfter p root f) (λ v b rest. IsReadTo p v rest i (P b)) ⊥ s
    (λ v b rest x y. text_passes p root v b rest f x i (P b) y (stops b y.tree y.is)) h k

-- two faults of one text are equal
pub one_fault : (p : Problem) (root : List Fact) (s : Stream) (f g : CheckFault) → IsProofFault p root s f → IsProofFault p root s g → f ≡ g
one_fault p root s (reported.Text f) (reported.Text g) h k = ap (λ x. reported.Text x) (texts_one p root s f g h k)
one_fault p root s (reported.Text f) (reported.Rule j g) h k =
    absurd (text_one p root s f j (λ b t. FailsAt p root b t j g) (λ b t x. stops_by_fault p root b t j g x) h k)
one_fault p root s (reported.Text f) (reported.TooDeep j) h k =
    absurd (text_one p root s f j (λ b t. IsDeepAt p root b t j) (λ b t x. stops_by_depth p root b t j x) h k)
one_fault p root s (reported.Rule i f) (reported.Text g) h k =
    absurd (text_one p root s g i (λ b t. FailsAt p root b t i f) (λ b t x. stops_by_fault p root b t i f x) k h)
one_fault p root s (reported.TooDeep i) (reported.Text g) h k =
    absurd (text_one p root s g i (λ b t. IsDeepAt p root b t i) (λ b t x. stops_by_depth p root b t i x) k h)
one_fault p root s (reported.Rule i f) (reported.Rule j g) h k =
    one_header (λ v b rest. IsReadTo p v rest i (λ t. FailsAt p root b t i f))
    (λ v b rest. IsReadTo p v rest j (λ t. FailsAt p root b t j g))
    (reported.Rule i f ≡ reported.Rule j g) s
    (λ v b rest x y. rules_fail p root v b rest i j f g x y) h k
one_fault p root s (reported.TooDeep i) (reported.TooDeep j) h k =
    one_header (λ v b rest. IsReadTo p v rest i (λ t. IsDeepAt p root b t i)) (λ v b rest. IsReadTo p v rest j (λ t. IsDeepAt p root b t j))
    (reported.TooDeep i ≡ reported.TooDeep j) s
    (λ v b rest x y. depths_fail p root v b rest i j x y) h k
one_fault p root s (reported.Rule i f) (reported.TooDeep j) h k =
    absurd (one_header (λ v b rest. IsReadTo p v rest i (λ t. FailsAt p root b t i f))
    (λ v b rest. IsReadTo p v rest j (λ t. IsDeepAt p root b t j))
    ⊥ s (λ v b rest x y. rule_or_depth p root v b rest i j f x y) h k)
one_fault p root s (reported.TooDeep i) (reported.Rule j g) h k =
    absurd (one_header (λ v b rest. IsReadTo p v rest i (λ t. IsDeepAt p root b t i))
    (λ v b rest. IsReadTo p v rest j (λ t. FailsAt p root b t j g))
    ⊥ s (λ v b rest x y. rule_or_depth p root v b rest j i g y x) h k)

-- -- the faults of `certify`

proofs_refused : (i s bytes : List ℕ) (f g : CheckFault) → FailsProof i s (Some bytes) f → FailsProof i s (Some bytes) g → f ≡ g
proofs_refused i s bytes f g h k =
    let same : k.problem ≡ h.problem = spelled_once i k.problem h.problem k.both.spelled h.both.spelled in
    one_fault h.problem [] (stream_of bytes) f g h.fails (subst (λ (q : Problem). IsProofFault q [] (stream_of bytes) g) same k.fails)

solutions_refused : (i s : List ℕ) (f g : SolutionFault) → FailsSolution i s f → FailsSolution i s g → fault.Solution f ≡ fault.Solution g
solutions_refused i s f g h k =
    let same : k.problem ≡ h.problem = spelled_once i k.problem h.problem k.spelled h.spelled in
    let a = h.fails in
    let c : solution_of h.problem s ≡ Err g = subst (λ (q : Problem). solution_of q s ≡ Err g) same k.fails in
    cc

spelled_or_refused : (i : List ℕ) (p : Problem) (f : InstanceFault) → instance_of i ≡ Err f → Spells i p → ⊥
spelled_or_refused i p f h spelled = let e = is_read i p spelled in cc

-- two faults that `certify` may report for its bytes are equal
pub one_refusal : (i s bytes : List ℕ) (f g : CertifyFault) → IsFirstFault i s (Some bytes) f → IsFirstFault i s (Some bytes) g → f ≡ g
one_refusal i s bytes (fault.Instance f) (fault.Instance g) h k = cc
one_refusal i s bytes (fault.Instance f) (fault.Solution g) h k = absurd (spelled_or_refused i k.problem f h k.spelled)
one_refusal i s bytes (fault.Instance f) (fault.Proof g) h k = absurd (spelled_or_refused i k.problem f h k.both.spelled)
one_refusal i s bytes (fault.Solution f) (fault.Instance g) h k = absurd (spelled_or_refused i h.problem g k h.spelled)
one_refusal i s bytes (fault.Proof f) (fault.Instance g) h k = absurd (spelled_or_refused i h.problem g k h.both.spelled)
one_refusal i s bytes (fault.Solution f) (fault.Solution g) h k = solutions_refused i s f g h k
one_refusal i s bytes (fault.Solution f) (fault.Proof g) h k = absurd (files_faultless i s k.problem k.table (fault.Solution f) k.both h)
one_refusal i s bytes (fault.Proof f) (fault.Solution g) h k = absurd (files_faultless i s h.problem h.table (fault.Solution g) h.both k)
one_refusal i s bytes (fault.Proof f) (fault.Proof g) h k = ap (λ x. fault.Proof x) (proofs_refused i s bytes f g h k)

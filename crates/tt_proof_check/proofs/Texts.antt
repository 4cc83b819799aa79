-- The facts about the bytes that follow from a proof that was read whole, or from an error of it.
use Rattle.std.proofs.Common.{◌≡◌, ℕ, ◌+◌, ◌<◌, Bool, true, List, [], ◌∷◌, ◌++◌, length, Some, Option, Result, Ok, Err, IfOk, refl, sym, ap, subst, ◌∙◌, arith, append_assoc, append-nil, ◌⊎◌, inl, inr, is_some}
use Rattle.std.specs.Prelude.{slice_get}
use Rattle.tt_text.specs.Stops.{IfFault, UnlessStopped}
use Rattle.tt_text.specs.declared.stop.Stop.{Stop}
use Rattle.tt_text.specs.declared.stop.Stop.TheVariants.{Fault, ReadFailed, OutOfMemory}
use Rattle.tt_text.specs.Feeds.{Stream, stream_at, fresh}
use Rattle.tt_instance.specs.Problem.{Problem}
use Rattle.tt_instance.specs.Limits.{IsInstance}
use Rattle.tt_path.specs.declared.facts.Fact.{Fact}
use Rattle.tt_leaf.specs.declared.leaf.Bound.{Bound}
use Rattle.tt_proof_read.specs.Reading.{header_at, node_at, end_at}
use Rattle.tt_proof_read.specs.Reads.{ReadsNodes, Reads}
use Rattle.tt_proof_read.specs.Spelling.{SpellsProof}
use Rattle.tt_proof_read.specs.Trees.{Tree, preorder, on_paths}
use Rattle.tt_proof_read.specs.declared.fault.TextFault.{TextFault}
use Rattle.tt_proof_read.specs.declared.node.Node.{Node}
use Rattle.tt_proof_read.proofs.ProofLaws.{reads_spelled, spelled_reads}
use Rattle.tt_proof_read.proofs.Small.{are_small}
use Rattle.tt_proof_check.specs.declared.fault.CheckFault.{CheckFault}
use Rattle.tt_proof_check.specs.declared.fault.CheckFault.TheVariants as reported
use Rattle.tt_proof_check.specs.Derives.{Derives, HoldsOn, IsShallowOn}
use Rattle.tt_proof_check.specs.Visited.{IsVisitedProof}
use Rattle.tt_proof_check.specs.Inner.CheckedPart.{Proved}
use Rattle.tt_proof_check.specs.Streams.{IsProved, stream_of, sizes_of, NodeFails, EndFails, IsReadTo, HasHeader, IsProofFault}
use Rattle.tt_proof_check.specs.Explains.{FailsAt, IsDeepAt}
use Rattle.tt_proof_check.proofs.Roots.{shallow_alone}
use Rattle.tt_proof_check.proofs.Determined.{begins_whole, same_header, compare, same_place}
use Rattle.tt_proof_check.proofs.InOrder.{tree_passes, never_fails, never_deep}
use Rattle.tt_proof_check.proofs.Sizes.{are_sizes_of}
use Rattle.tt_proof_check.proofs.Soundness.{tree_sound}

-- one reading doesn't give both a value and a fault
pub only_one : {Y : Type 0} (read : Result Y TextFault) (y : Y) (f : TextFault) → read ≡ Ok y → read ≡ Err f → ⊥
only_one read y f e h = cc

-- -- if a tree is read and derives the bound, there is no fault

module _ (p : Problem) (v : ℕ) (s noded : Stream) (tree : Tree) (reads : ReadsNodes (sizes_of p) v 0 s (preorder tree) noded) where
  -- no node is due after a whole tree
  none_due : (nodes more : List Node) (other : Tree) (next : Node) (behind : List Node) → preorder tree ++ more ≡ nodes
      → preorder other ≡ nodes ++ next ∷ behind → ⊥
  none_due nodes more other next behind e begins =
      nothing more (begins_whole other tree (more ++ next ∷ behind) (begins ∙ ap (λ l. l ++ next ∷ behind) (sym e)
      ∙ append_assoc (preorder tree) more (next ∷ behind))).1
    where
      nothing : (xs : List Node) → [] ≡ xs ++ next ∷ behind → ⊥
      nothing [] h = cc
      nothing (x ∷ xs) h = cc

  -- after nodes that some tree continues, the text of a node is read
  pub node_read : (f : TextFault) (nodes : List Node) (rest : Stream) (other : Tree) (next : Node)
      (behind : List Node) → ReadsNodes (sizes_of p) v 0 s nodes rest → preorder other ≡ nodes ++ next ∷ behind
      → node_at (sizes_of p) v (length nodes) rest ≡ Err f → ⊥
  node_read f nodes rest other next behind reads_these begins fails =
      elim (compare (sizes_of p) v 0 s rest noded nodes (preorder tree) reads_these reads) [
        | inl m ↦ onward m.0 m.1 m.2
        | inr m ↦ none_due nodes m.0 other next behind m.1 begins
      ]
    where
      onward : (more : List Node) → nodes ++ more ≡ preorder tree → ReadsNodes (sizes_of p) v (0 + length nodes) rest more noded → ⊥
      onward [] e r = none_due nodes [] other next behind (append-nil (preorder tree) ∙ sym e ∙ append-nil nodes) begins
      onward (x ∷ xs) e r =
          let here : length nodes ≡ 0 + length nodes = omega arith in
          only_one (node_at (sizes_of p) v (length nodes) rest) (x, r.0) f
          (ap (λ (k : ℕ). node_at (sizes_of p) v k rest) here ∙ r.1) fails

  -- after a whole tree, the text of the end is read
  pub end_read : (ended : Stream) → end_at noded ≡ Ok ended → (f : TextFault)
      → (other : Tree) (rest : Stream) → ReadsNodes (sizes_of p) v 0 s (preorder other) rest → end_at rest ≡ Err f → ⊥
  end_read ended finish f other rest reads_these fails = only_one (end_at rest) ended f (ap end_at same ∙ finish) fails
    where
      none : (k : ℕ) (x y : Stream) (more : List Node) → [] ≡ more → ReadsNodes (sizes_of p) v k x more y → x ≡ y
      none k x y more e r = subst (λ (l : List Node). ReadsNodes (sizes_of p) v k x l y) (sym e) r

      same : rest ≡ noded
      same = elim (compare (sizes_of p) v 0 s rest noded (preorder other) (preorder tree) reads_these reads) [
        | inl m ↦ none (0 + length (preorder other)) rest noded m.0 (begins_whole tree other m.0 (sym m.1)).1 m.2
        | inr m ↦ sym (none (0 + length (preorder tree)) noded rest m.0 (begins_whole other tree m.0 (sym m.1)).1 m.2)
      ]

  pub place_read : (root : List Fact) (i : ℕ) (P : Tree → Type 0) (h : IsReadTo p v s i P)
      → slice_get (on_paths root tree) i ≡ slice_get (on_paths root h.tree) i
  place_read root i P h =
      let inside : i < length h.nodes = omega (arith, h.last) in
      elim (compare (sizes_of p) v 0 s h.rest noded h.nodes (preorder tree) h.reads reads) [
        | inl m ↦ same_place root tree h.tree h.nodes m.0 h.more i (sym m.1) h.begins inside
        | inr m ↦ ap (λ (t : Tree). slice_get (on_paths root t) i)
            (sym (begins_whole h.tree tree (m.0 ++ h.more) (h.begins ∙ ap (λ l. l ++ h.more) (sym m.1)
            ∙ append_assoc (preorder tree) m.0 h.more)).0)
      ]

module _ (p : Problem) (s : Stream) (v : ℕ) (b : Bound) (tree : Tree) (r : Reads (sizes_of p) s v b tree) where
  -- any header of the stream is this one
  header_is : (P : ℕ → Bound → Stream → Type 0) → HasHeader s P → P v b r.headed
  header_is P h = subst (λ (x : (ℕ × Bound) × Stream). P x.0.0 x.0.1 x.1)
      (same_header ((h.0, h.1), h.2) ((v, b), r.headed) (sym h.3 ∙ r.header)) h.4

  pub bound_is : (root : List Fact) (known : Bool) (H : List Node → Type 0) (c : Bound) → known ≡ true → Proved p root known H s c → c ≡ b
  bound_is root known H c k h = ap (λ (x : (ℕ × Bound) × Stream). x.0.1)
      (same_header ((h.version, c), (h.reads k).headed) ((v, b), r.headed)
      (sym (h.reads k).header ∙ r.header))

  pub faultless : (root : List Fact) → IsShallowOn root tree → Derives p b root tree → (e : CheckFault) → IsProofFault p root s e → ⊥
  faultless root shallow d (reported.Text f) (inl h) = only_one (header_at s) ((v, b), r.headed) f r.header h
  faultless root shallow d (reported.Text f) (inr h) = elim (header_is
      (λ w c rest. NodeFails p root w c rest f ⊎ EndFails p root w c rest f) h) [
        | inl a ↦ node_read p v r.headed r.noded tree r.nodes f a.nodes a.rest a.tree a.next a.more a.reads a.begins a.fails
        | inr a ↦ end_read p v r.headed r.noded tree r.nodes r.ended r.finish f a.tree a.rest a.reads a.fails
      ]
  faultless root shallow d (reported.Rule i f) h =
      let a = header_is (λ w c rest. IsReadTo p w rest i (λ t. FailsAt p root c t i f)) h in
      never_fails p root b tree a.tree i f (tree_passes p root b tree shallow d)
      (place_read p v r.headed r.noded tree r.nodes root i (λ t. FailsAt p root b t i f) a) a.is
  faultless root shallow d (reported.TooDeep i) h =
      let a = header_is (λ w c rest. IsReadTo p w rest i (λ t. IsDeepAt p root c t i)) h in
      never_deep p root b tree a.tree i (tree_passes p root b tree shallow d)
      (place_read p v r.headed r.noded tree r.nodes root i (λ t. IsDeepAt p root b t i) a) a.is

-- ---- the bytes

module _ (p : Problem) (root : List Fact) (remaining : Option (List ℕ)) (H : List Node → Type 0) where
  proved_in : (bytes : List ℕ) → remaining ≡ Some bytes → (b : Bound) → Proved p root (is_some remaining) H (stream_at fresh remaining) b
      → Proved p root true H (stream_of bytes) b
  proved_in bytes e b h = subst (λ (k : Option (List ℕ)). Proved p root (is_some k) H (stream_at fresh k) b) e h

  found_in : (bytes : List ℕ) → remaining ≡ Some bytes → (b : Bound) → Proved p root (is_some remaining) H (stream_at fresh remaining) b
      → IsProved p root bytes b
  found_in bytes e b h =
      let k = proved_in bytes e b h in
      let low = shallow_alone root k.tree k.shallow in (
        k.version,
        k.tree,
        reads_spelled p (sizes_of p) (are_sizes_of p) bytes k.version b k.tree low (k.reads refl),
        k.derives,
        k.shallow,
      )

  reported_in : (bytes : List ℕ) → remaining ≡ Some bytes → (x : CheckFault) → IsProofFault p root (stream_at fresh remaining) x
      → IsProofFault p root (stream_of bytes) x
  reported_in bytes e x h = subst (λ (k : Option (List ℕ)). IsProofFault p root (stream_at fresh k) x) e h

  -- a check returns the proof if the result is a bound, and the fault if it is one
  abbrev IsTold : Result Bound (Stop CheckFault) → Type 0
  IsTold r = IfOk r (λ b. Proved p root (is_some remaining) H (stream_at fresh remaining) b)

  abbrev IsRefused : Result Bound (Stop CheckFault) → Type 0
  IsRefused r = is_some remaining ≡ true → IfFault r (λ x. IsProofFault p root (stream_at fresh remaining) x)

  pub proof_found : (r : Result Bound (Stop CheckFault)) → IsTold r
      → IfOk r (λ b. (bytes : List ℕ) → remaining ≡ Some bytes → IsProved p root bytes b)
  proof_found (Ok b) h = λ bytes e. found_in bytes e b h
  proof_found (Err x) h = tt

  pub proof_visited : (r : Result Bound (Stop CheckFault)) → IsTold r → IfOk r (IsVisitedProof p root remaining H)
  proof_visited (Ok b) h = record {
    version = h.version;
    tree = h.tree;
    spelled = λ bytes e.
        reads_spelled p (sizes_of p) (are_sizes_of p) bytes h.version b h.tree (shallow_alone root h.tree h.shallow)
        (subst (λ (k : Option (List ℕ)). Reads (sizes_of p) (stream_at fresh k) h.version b h.tree) e (h.reads (ap is_some e)));
    shallow = h.shallow;
    derives = h.derives;
    visited = h.visited;
  }
  proof_visited (Err x) h = tt

  pub proof_holds : (r : Result Bound (Stop CheckFault)) → IsTold r → IfOk r (λ b. HoldsOn p b root)
  proof_holds (Ok b) h = λ t ok fits. tree_sound p t ok b root h.tree h.derives fits
  proof_holds (Err x) h = tt

  pub proof_only : IsInstance p → (r : Result Bound (Stop CheckFault)) → IsTold r → IsRefused r
      → (bytes : List ℕ) (b : Bound) → remaining ≡ Some bytes → IsProved p root bytes b → UnlessStopped r (λ k. k ≡ Ok b)
  proof_only is r proved fault bytes b e h =
      let reads = spelled_reads p (sizes_of p) (are_sizes_of p) (are_small p (sizes_of p) is (are_sizes_of p)) bytes h.0 b h.1 h.2 in
      on r proved fault reads
    where
      on : (x : Result Bound (Stop CheckFault)) → IsTold x → IsRefused x → Reads (sizes_of p) (stream_of bytes) h.0 b h.1
          → UnlessStopped x (λ k. k ≡ Ok b)
      on (Ok c) done told reads =
          ap (λ k. Ok k) (bound_is p (stream_of bytes) h.0 b h.1 reads root true H c refl (proved_in bytes e c done))
      on (Err (Fault x)) done told reads =
          absurd (faultless p (stream_of bytes) h.0 b h.1 reads root h.4 h.3 x (reported_in bytes e x (told (ap is_some e))))
      on (Err ReadFailed) done told reads = tt
      on (Err OutOfMemory) done told reads = tt

-- bytes that spell a proof have no fault
pub proved_faultless : (p : Problem) (root : List Fact) → IsInstance p → (bytes : List ℕ) (b : Bound) → IsProved p root bytes b
    → (e : CheckFault) → IsProofFault p root (stream_of bytes) e → ⊥
proved_faultless p root is bytes b h e told =
    faultless p (stream_of bytes) h.0 b h.1
    (spelled_reads p (sizes_of p) (are_sizes_of p) (are_small p (sizes_of p) is (are_sizes_of p)) bytes h.0 b h.1 h.2)
    root h.4 h.3 e told

-- bytes spell at most one version, one bound and one tree
pub spelled_once : (p : Problem) → IsInstance p → (bytes : List ℕ) (v w : ℕ) (b c : Bound) (x y : Tree) → SpellsProof p bytes v b x
    → SpellsProof p bytes w c y → ((v ≡ w) × (b ≡ c)) × (x ≡ y)
spelled_once p is bytes v w b c x y h k =
    let small = are_small p (sizes_of p) is (are_sizes_of p) in
    let r = spelled_reads p (sizes_of p) (are_sizes_of p) small bytes v b x h in
    let q = spelled_reads p (sizes_of p) (are_sizes_of p) small bytes w c y k in
    let same = same_header ((v, b), r.headed) ((w, c), q.headed) (sym r.header ∙ q.header) in
    let version : v ≡ w = ap (λ (z : (ℕ × Bound) × Stream). z.0.0) same in
    let headed : r.headed ≡ q.headed = ap (λ (z : (ℕ × Bound) × Stream). z.1) same in
    let nodes : ReadsNodes (sizes_of p) w 0 q.headed (preorder x) r.noded =
    subst (λ (s : Stream). ReadsNodes (sizes_of p) w 0 s (preorder x) r.noded) headed
    (subst (λ (u : ℕ). ReadsNodes (sizes_of p) u 0 r.headed (preorder x) r.noded) version r.nodes) in (
      (version, ap (λ (z : (ℕ × Bound) × Stream). z.0.1) same),
      elim (compare (sizes_of p) w 0 q.headed r.noded q.noded (preorder x) (preorder y) nodes q.nodes) [
        | inl m ↦ sym (begins_whole y x m.0 (sym m.1)).0
        | inr m ↦ (begins_whole x y m.0 (sym m.1)).0
      ],
    )

-- Nodes that are read and stored.
use Rattle.std.proofs.Common.{◌≡◌, ℕ, ◌+◌, ◌<◌, Bool, true, List, [], ◌∷◌, ◌++◌, length, Some, None, Result, Ok, Err, refl, sym, ap, subst, ◌∙◌, arith, length-append}
use Rattle.std.specs.Prelude.{All}
use Rattle.std.proofs.lemmas.List.Elements.{All-push}
use Rattle.tt_text.specs.Feeds.{Stream}
use Rattle.tt_leaf.specs.declared.leaf.Leaf.TheVariants.{Many}
use Rattle.tt_proof_read.specs.Reading.{node_at}
use Rattle.tt_proof_read.specs.Readers.{Reader, IsNodeAt, IsReaderAfter, IsReadingOf}
use Rattle.tt_proof_read.specs.Reads.{ReadsNodes}
use Rattle.tt_proof_read.specs.Trees.{Tree, preorder}
use Rattle.tt_proof_read.specs.declared.fault.TextFault.{TextFault}
use Rattle.tt_proof_read.specs.declared.node.Node.{Node}
use Rattle.tt_proof_read.specs.declared.node.Node.TheVariants.{Leaf}
use Rattle.tt_proof_read.specs.declared.sizes.Sizes.{Sizes}
use Rattle.tt_proof_check.proofs.Counting.{next_places}
use Rattle.tt_proof_check.proofs.Reading.{Stack, place, next_stack, stack_after, stack_after-push, closing, some_tree, stack_whole}
use Rattle.tt_proof_check.proofs.Streaming.{reads_push}
use Rattle.tt_proof_upgrade.specs.Texts.{IsCollected, NodeTextFails}

-- The nodes stored so far, in this state of the reader, with this stream after them.
pub record Collected (sizes : Sizes) (v : ℕ) (known : Bool) (s : Stream) (reader : Reader) (t : Stream) (nodes : List Node) : Type 0 where
  pub stack : Stack
  pub after : stack_after (place []) nodes ≡ Some stack
  pub places : length stack ≡ reader.places
  pub reads : known ≡ true → ReadsNodes sizes v 0 s nodes t
  pub count : length nodes ≡ reader.count
  pub each : All (IsNodeAt sizes v) nodes
  pub sizes_are : reader.sizes ≡ sizes
  pub version : reader.version ≡ v
  pub sound : reader.fault ≡ None

pub collected_start : (known : Bool) (s : Stream) (reader : Reader) → reader.count ≡ 0 → reader.places ≡ 1 → reader.fault ≡ None
    → Collected reader.sizes reader.version known s reader s []
collected_start known s reader count places sound = record {
  stack = place [];
  after = refl;
  places = sym places;
  reads = λ k. refl;
  count = sym count;
  each = λ k x h. absurd (omega arith);
  sizes_are = refl;
  version = refl;
  sound = sound;
}

module _ (sizes : Sizes) (v : ℕ) (known : Bool) (s : Stream) (old : Reader) (t : Stream) (nodes : List Node)
    (m : Collected sizes v known s old t nodes) where
  node_is : (n : Node) (u : Stream) → node_at old.sizes old.version old.count t ≡ Ok (n, u) → node_at sizes v (0 + length nodes) t ≡ Ok
      (n, u)
  node_is n u e =
      let here : 0 + length nodes ≡ old.count = omega (arith, m.count) in
      subst (λ (k : ℕ). node_at sizes v k t ≡ Ok (n, u)) (sym here)
      (subst (λ (k : ℕ). node_at sizes k old.count t ≡ Ok (n, u)) m.version
      (subst (λ (x : Sizes). node_at x old.version old.count t ≡ Ok (n, u)) m.sizes_are e))

  pub collected_next : (new : Reader) (u : Stream) (n : Node) → IsReaderAfter old (Ok (Some n)) new
      → (known ≡ true → IsReadingOf old t (Ok (Some n)) u) → IsNodeAt old.sizes old.version n → Collected sizes v known s new u
      (nodes ++ n ∷ [])
  collected_next new u n goes says is = on m.stack m.after m.places
    where
      on : (stack : Stack) → stack_after (place []) nodes ≡ Some stack → length stack ≡ old.places → Collected sizes v known s new u
          (nodes ++ n ∷ [])
      on [] after places = absurd (omega (arith, goes.0, places))
      on (path ∷ others) after places = record {
        stack = next_stack path others n;
        after = stack_after-push [] path others nodes n after;
        places = next_places path others n old.places places ∙ ap (λ (r : Reader). r.places) (sym goes.1);
        reads = λ k. reads_push sizes v 0 s t u nodes n (m.reads k) (node_is n u (says k));
        count = length-append nodes (n ∷ []) ∙ ap (λ (k : ℕ). k + 1) m.count ∙ ap (λ (r : Reader). r.count) (sym goes.1);
        each = All-push (IsNodeAt sizes v) nodes n m.each
            (subst (λ (k : ℕ). IsNodeAt sizes k n) m.version (subst (λ (x : Sizes). IsNodeAt x old.version n) m.sizes_are is));
        sizes_are = ap (λ (r : Reader). r.sizes) goes.1 ∙ m.sizes_are;
        version = ap (λ (r : Reader). r.version) goes.1 ∙ m.version;
        sound = ap (λ (r : Reader). r.fault) goes.1 ∙ m.sound;
      }

  pub collected_end : (u : Stream) → old.places ≡ 0 → (known ≡ true → u ≡ t) → IsCollected sizes v known s u nodes
  collected_end u none says = record {
    tree = stack_whole [] nodes (on m.stack m.after m.places);
    reads = λ k. subst (λ (x : Stream). ReadsNodes sizes v 0 s nodes x) (sym (says k)) (m.reads k);
  }
    where
      on : (stack : Stack) → stack_after (place []) nodes ≡ Some stack → length stack ≡ old.places → stack_after (place []) nodes ≡ Some []
      on [] after places = after
      on (path ∷ others) after places = absurd (omega (arith, none, places))

  -- some tree continues the nodes
  goes_on : 0 < old.places → (tree : Tree) × (more : List Node) × (preorder tree ≡ nodes ++ Leaf (Many 0) ∷ more)
  goes_on some = on m.stack m.after m.places
    where
      on : (stack : Stack) → stack_after (place []) nodes ≡ Some stack → length stack ≡ old.places → (tree : Tree) × (more : List Node)
          × (preorder tree ≡ nodes ++ Leaf (Many 0) ∷ more)
      on [] after places = absurd (omega (arith, some, places))
      on (path ∷ others) after places = let h = some_tree [] nodes (path ∷ others) after in (h.0, closing others, h.1)

  here : (P : Result (Node × Stream) TextFault → Type 0) → P (node_at old.sizes old.version old.count t)
      → P (node_at sizes v (length nodes) t)
  here P h =
      subst (λ (i : ℕ). P (node_at sizes v i t)) (sym m.count)
      (subst (λ (i : ℕ). P (node_at sizes i old.count t)) m.version
      (subst (λ (x : Sizes). P (node_at x old.version old.count t)) m.sizes_are h))

  pub collected_breaks : (f : TextFault) → 0 < old.places → known ≡ true → node_at old.sizes old.version old.count t ≡ Err f
      → NodeTextFails sizes v s f
  collected_breaks f some k fails =
      let w = goes_on some in
      record {
        nodes = nodes;
        rest = t;
        reads = m.reads k;
        tree = w.0;
        next = Leaf (Many 0);
        more = w.1;
        begins = w.2;
        fails = here (λ r. r ≡ Err f) fails;
      }

-- Whole proofs: those that are read node by node are spelled, and those that are spelled are read.
use Rattle.std.proofs.Common.{◌≡◌, ℕ, ◌+◌, ◌≤◌, List, [], ◌∷◌, ◌++◌, length, Result, Ok, Err, refl, sym, ap, subst, ◌∙◌, arith}
use Rattle.std.specs.Prelude.{All}
use Rattle.std.proofs.lemmas.List.Elements.{All-nil, All-cons, All-head, All-tail, All-from_recursion, recursion_from_All}
use Rattle.tt_text.specs.Tokens.{Placed, tokens_of}
use Rattle.tt_text.specs.Pieces.{Piece, Text, Begins}
use Rattle.tt_text.specs.Feeds.{Stream, stopped}
use Rattle.tt_text.specs.declared.feed.TheConstants.{MAX_BYTES}
use Rattle.tt_text.specs.declared.feed.FeedFault.{FeedFault}
use Rattle.tt_text.proofs.Steps.{ok_is, bind_ok}
use Rattle.tt_text.proofs.Unlimited.{unlimited, limited}
use Rattle.tt_instance.specs.Problem.{Problem}
use Rattle.tt_path.specs.declared.path.TheConstants.{MAX_FACTS}
use Rattle.tt_leaf.specs.declared.leaf.Bound.{Bound}
use Rattle.tt_proof_read.specs.Reads.{ReadsNodes, Reads, stream_of_bytes}
use Rattle.tt_proof_read.specs.Sizes.{AreSizes}
use Rattle.tt_proof_read.specs.Spelling.{version_text, bound_piece, SpellsEach, SpellsNode, IsBound, IsNode, SpellsProof}
use Rattle.tt_proof_read.specs.Reading.{word_at, version_at, bound_at, header_at, no_more, end_at}
use Rattle.tt_proof_read.specs.Trees.{Tree, AllLeaves, preorder}
use Rattle.tt_proof_read.specs.Words.{fixed}
use Rattle.tt_proof_read.specs.declared.fault.Word.TheVariants as word
use Rattle.tt_proof_read.specs.declared.format.TheConstants.{MAX_PROOF_NODES}
use Rattle.tt_proof_read.specs.declared.node.Node.{Node}
use Rattle.tt_proof_read.specs.declared.sizes.Sizes.{Sizes}
use Rattle.tt_proof_read.proofs.NodeLaws.{node_took, node_reads}
use Rattle.tt_proof_read.proofs.Small.{AreSmall}
use Rattle.tt_proof_read.proofs.Taking.{Took, took_nothing, took_then, took_split, took_same}
use Rattle.tt_proof_read.proofs.TokenLaws.{word_took, word_reads, version_took, version_reads, bound_took, bound_reads}

-- ---- the header

-- the pieces of a header
abbrev pub header_pieces : ℕ → Bound → List Piece
header_pieces v b = fixed word.Cttp ∷ Text (version_text v) ∷ fixed word.Bound ∷ bound_piece b ∷ []

pub record HeaderTook (s : Stream) (x : (ℕ × Bound) × Stream) : Type 0 where
  pub took : Took s (header_pieces x.0.0 x.0.1) x.1
  pub version : (1 ≤ x.0.0) × (x.0.0 ≤ 2)
  pub bound : IsBound x.0.1

-- a header that was read is spelled
pub header_took : (s : Stream) (x : (ℕ × Bound) × Stream) → header_at s ≡ Ok x → HeaderTook s x
unfolding header_at
header_took s x e =
    let w1 = bind_ok (word_at word.Cttp s) _ x e in
    let v = bind_ok (version_at w1.0) _ x w1.2 in
    let w2 = bind_ok (word_at word.Bound v.0.1) _ x v.2 in
    let b = bind_ok (bound_at w2.0) _ x w2.2 in
    let first = word_took word.Cttp s w1.0 w1.1 in
    let version = version_took w1.0 v.0 v.1 in
    let second = word_took word.Bound v.0.1 w2.0 w2.1 in
    let bound = bound_took w2.0 b.0 b.1 in
    let whole : Took s (header_pieces v.0.0 b.0.0) b.0.1 =
    took_then _ _ _ _ _ first (took_then _ _ _ _ _ version.0 (took_then _ _ _ _ _ second bound.0)) in
    subst (HeaderTook s) (ok_is ((v.0.0, b.0.0), b.0.1) x b.2) (record { took = whole; version = version.1; bound = bound.1 })

-- a header that is spelled is read
pub header_reads : (v : ℕ) (b : Bound) (s after : Stream) → 1 ≤ v → v ≤ 2 → IsBound b → Took s (header_pieces v b) after
    → header_at s ≡ Ok ((v, b), after)
unfolding header_at
header_reads v b s after low high within took =
    let a1 = took_split (fixed word.Cttp ∷ []) (Text (version_text v) ∷ fixed word.Bound ∷ bound_piece b ∷ []) s after took in
    let a2 = took_split (Text (version_text v) ∷ []) (fixed word.Bound ∷ bound_piece b ∷ []) a1.0 after a1.2 in
    let a3 = took_split (fixed word.Bound ∷ []) (bound_piece b ∷ []) a2.0 after a2.2 in
    rw (
      word_reads word.Cttp s a1.0 a1.1,
      version_reads v a1.0 a2.0 low high a2.1,
      word_reads word.Bound a2.0 a3.0 a3.1,
      bound_reads b a3.0 after within a3.2,
    ) refl

-- ---- the end

-- if no token is refused, none is left
pub no_more_took : (ts : List Placed) (stop : Result ℕ FeedFault) (x : Stream) → no_more ts stop ≡ Ok x
    → (ts ≡ []) × ((m : ℕ) × (stop ≡ Ok m))
no_more_took [] (Ok m) x e = (refl, (m, refl))
no_more_took [] (Err f) x e = absurd cc
no_more_took (t ∷ ts) stop x e = absurd cc

pub record EndTook (s : Stream) : Type 0 where
  pub rest : Stream
  pub took : Took s (fixed word.End ∷ []) rest
  pub none : rest.tokens ≡ []
  pub bytes : ℕ
  pub stop : rest.stop ≡ Ok bytes

-- the end that was read is spelled
pub end_took : (s x : Stream) → end_at s ≡ Ok x → EndTook s
unfolding end_at
end_took s x e =
    let w = bind_ok (word_at word.End s) (λ rest. no_more rest.tokens rest.stop) x e in
    let h = no_more_took w.0.tokens w.0.stop x w.2 in
    record { rest = w.0; took = word_took word.End s w.0 w.1; none = h.0; bytes = h.1.0; stop = h.1.1 }

-- the end that is spelled is read
pub end_reads : (s : Stream) (m : ℕ) → Took s (fixed word.End ∷ []) (stopped (Ok m)) → end_at s ≡ Ok (stopped (Ok m))
unfolding end_at
end_reads s m took = rw (word_reads word.End s (stopped (Ok m)) took) refl

-- ---- the nodes

module _ (p : Problem) (sizes : Sizes) (are : AreSizes p sizes) (version : ℕ) where
  pub record NodesTook (count : ℕ) (s : Stream) (nodes : List Node) (after : Stream) : Type 0 where
    pub body : List Piece
    pub spells : SpellsEach SpellsNode nodes body
    pub took : Took s body after
    pub each : All (IsNode p version) nodes
    pub at_most : count + length nodes ≤ MAX_PROOF_NODES

  -- nodes that were read are spelled
  pub nodes_took : (count : ℕ) (s : Stream) (nodes : List Node) (after : Stream) → count ≤ MAX_PROOF_NODES
      → ReadsNodes sizes version count s nodes after → NodesTook count s nodes after
  nodes_took count s [] after at_most reads = record {
    body = [];
    spells = refl;
    took = subst (Took s []) reads (took_nothing s);
    each = All-nil (IsNode p version);
    at_most = omega arith;
  }
  nodes_took count s (n ∷ ns) after at_most reads =
      let a = node_took p sizes are version count s (n, reads.0) reads.1 in
      let more = nodes_took (count + 1) reads.0 ns after (omega (arith, a.room)) reads.2 in
      record {
        body = a.pieces ++ more.body;
        spells = (a.pieces, more.body, a.spells, more.spells, refl);
        took = took_then s reads.0 after a.pieces more.body a.took more.took;
        each = All-cons (IsNode p version) n ns a.is more.each;
        at_most = omega (arith, more.at_most);
      }

  -- nodes that are spelled are read
  pub nodes_read : AreSmall sizes → (count : ℕ) (nodes : List Node) (body : List Piece) (s after : Stream)
      → count + length nodes ≤ MAX_PROOF_NODES → SpellsEach SpellsNode nodes body → All (IsNode p version) nodes
      → Took s body after → ReadsNodes sizes version count s nodes after
  nodes_read small count [] body s after at_most spells each took = took_same s after (subst (λ ps. Took s ps after) spells took)
  nodes_read small count (n ∷ ns) body s after at_most spells each took =
      let parts = took_split spells.0 spells.1 s after (subst (λ ps. Took s ps after) spells.4 took) in (
        parts.0,
        node_reads p sizes are version small count n spells.0 s parts.0 (omega arith) spells.2
            (All-head (IsNode p version) n ns each) parts.1,
        nodes_read small (count + 1) ns spells.1 parts.0 after (omega arith) spells.3 (All-tail (IsNode p version) n ns each) parts.2,
      )

-- -- the whole proof

module _ (p : Problem) (sizes : Sizes) (are : AreSizes p sizes) where
  -- a proof that was read is spelled, if no path is too long
  pub reads_spelled : (bytes : List ℕ) (v : ℕ) (b : Bound) (tree : Tree) → AllLeaves (λ path _. length path ≤ MAX_FACTS) [] tree
      → Reads sizes (stream_of_bytes bytes) v b tree → SpellsProof p bytes v b tree
  reads_spelled bytes v b tree depth r =
      let s = stream_of_bytes bytes in
      let header = header_took s ((v, b), r.headed) r.header in
      let nodes = nodes_took p sizes are v 0 r.headed (preorder tree) r.noded (omega arith) r.nodes in
      let last = end_took r.noded r.ended r.finish in
      let whole = took_then s r.headed last.rest (header_pieces v b) (nodes.body ++ fixed word.End ∷ []) header.took
      (took_then r.headed r.noded last.rest nodes.body (fixed word.End ∷ []) nodes.took last.took) in
      let within = limited MAX_BYTES last.bytes bytes (whole.stop ∙ last.stop) in
      let same = unlimited MAX_BYTES 0 bytes (omega (arith, within.0)) within.1 in
      let tokens = subst (λ (ts : List Placed). Begins (header_pieces v b ++ (nodes.body ++ fixed word.End ∷ [])) ts [])
      (ap (λ (x : Stream). x.tokens) same)
      (subst (Begins (header_pieces v b ++ (nodes.body ++ fixed word.End ∷ [])) s.tokens) last.none whole.begins) in
      record {
        version = header.version;
        bound = header.bound;
        body = nodes.body;
        nodes = nodes.spells;
        tokens = tokens;
        each = nodes.each;
        within = record {
          size = within.0;
          tokens = All-from_recursion (λ t. length t.text ≤ 32) (tokens_of bytes) within.1;
          nodes = omega (arith, nodes.at_most);
          depth = depth;
        };
      }

  -- a proof that is spelled is read
  pub spelled_reads : AreSmall sizes → (bytes : List ℕ) (v : ℕ) (b : Bound) (tree : Tree) → SpellsProof p bytes v b tree
      → Reads sizes (stream_of_bytes bytes) v b tree
  spelled_reads small bytes v b tree spelled =
      let s = stream_of_bytes bytes in
      let size = spelled.within.size in
      let same = unlimited MAX_BYTES 0 bytes (omega (arith, size))
      (recursion_from_All (λ t. length t.text ≤ 32) (tokens_of bytes) spelled.within.tokens) in
      let after = stopped (Ok (0 + length bytes)) in
      let tail = spelled.body ++ fixed word.End ∷ [] in
      let whole : Took s (header_pieces v b ++ tail) after = subst (λ (x : Stream). Took x (header_pieces v b ++ tail) after) (sym same)
      (record { begins = spelled.tokens; stop = refl }) in
      let headed = took_split (header_pieces v b) tail s after whole in
      let noded = took_split spelled.body (fixed word.End ∷ []) headed.0 after headed.2 in
      record {
        headed = headed.0;
        noded = noded.0;
        ended = after;
        header = header_reads v b s headed.0 spelled.version.0 spelled.version.1 spelled.bound headed.1;
        nodes = nodes_read p sizes are v small 0 (preorder tree) spelled.body headed.0 noded.0
            (omega (arith, spelled.within.nodes)) spelled.nodes spelled.each noded.1;
        finish = end_reads noded.0 (0 + length bytes) noded.2;
      }

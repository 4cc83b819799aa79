-- What a fault at a token of a proof says of other bytes that begin as these do.
use Rattle.std.proofs.Common.{◌≡◌, ◌≢◌, ◌⊎◌, inl, inr, ℕ, zero, suc, ◌+◌, ◌≤◌, Bool, true, false, List, [], ◌∷◌, length, Option, Some, None, Result, Ok, Err, refl, sym, ap, subst, ◌∙◌, arith}
use Rattle.std.specs.Prelude.{Any}
use Rattle.std.specs.List.{take_while}
use Rattle.std.proofs.lemmas.Bool.{cases_eq}
use Rattle.std.proofs.lemmas.List.Elements.{recursion_from_All}
use Rattle.tt_text.specs.Tokens.{Placed, tokens_of}
use Rattle.tt_text.specs.Feeds.{fault_from, ends_before, Stream, stream_from}
use Rattle.tt_text.specs.declared.feed.TheConstants.{MAX_BYTES}
use Rattle.tt_text.specs.declared.feed.FeedFault.{FeedFault}
use Rattle.tt_text.specs.declared.feed.FeedFault.TheVariants as feed
use Rattle.tt_text.proofs.Feeding.{while-yes, while-no}
use Rattle.tt_text.proofs.Unlimited.{unlimited}
use Rattle.tt_instance.specs.Problem.{Problem}
use Rattle.tt_instance.specs.Beginnings.{BeginsAs}
use Rattle.tt_instance.specs.Limits.{IsInstance}
use Rattle.tt_instance.proofs.Beginnings.{begins_shared, stands_or_none}
use Rattle.tt_instance.proofs.Shared.{NoneAt, Shared, Apart, Next, other_offset}
use Rattle.tt_leaf.specs.declared.leaf.Bound.{Bound}
use Rattle.tt_proof_read.specs.Beginnings.{token_offset, FailsNext, NodesFail, ReadingFails}
use Rattle.tt_proof_read.specs.Reading.{header_at, node_at, end_at}
use Rattle.tt_proof_read.specs.Reads.{ReadsNodes, Reads, stream_of_bytes, open_after}
use Rattle.tt_proof_read.specs.Sizes.{AreSizes}
use Rattle.tt_proof_read.specs.Spelling.{SpellsProof}
use Rattle.tt_proof_read.specs.Trees.{Tree, preorder}
use Rattle.tt_proof_read.specs.declared.fault.TextFault.{TextFault}
use Rattle.tt_proof_read.specs.declared.node.Node.{Node}
use Rattle.tt_proof_read.specs.declared.node.Node.TheVariants as node
use Rattle.tt_proof_read.specs.declared.sizes.Sizes.{Sizes}
use Rattle.tt_proof_read.proofs.LongTokens.{long_token, long_shared, long_stands}
use Rattle.tt_proof_read.proofs.ProofLaws.{spelled_reads}
use Rattle.tt_proof_read.proofs.Sharing.{EndsElsewhere, NoneIn, SharedIn, StaysAt, Meets, NoneLeft, SharedLeft}
use Rattle.tt_proof_read.proofs.SharedNodes.{node_alike, header_alike, end_alike}
use Rattle.tt_proof_read.proofs.Small.{are_small}
use Rattle.tt_proof_read.proofs.Whole.{tree_filled}

-- ---- two readings

module _ (at : ℕ) {A : Type 0} (P : A → Type 0) (Q : A → A → Type 0) where
  -- a value, where no token lies there
  value_stays : (r : Result A TextFault) (x : A) → StaysAt at P r → r ≡ Ok x → P x
  value_stays r x s e = subst (StaysAt at P) e s

  fault_stays : (r : Result A TextFault) (e : TextFault) → StaysAt at P r → r ≡ Err e → token_offset e ≢ Some at
  fault_stays r e s is = subst (StaysAt at P) is s

  -- both have a value
  values_meet : (r s : Result A TextFault) (x y : A) → Meets at P Q r s → r ≡ Ok x → s ≡ Ok y → P x ⊎ Q x y
  values_meet r s x y m e d = both (subst (λ (q : Result A TextFault). Meets at P Q q s) e m)
    where
      both : Meets at P Q (Ok x) s → P x ⊎ Q x y
      both (inl p) = inl p
      both (inr q) = inr (q y d)

  -- the first fails at that token, so the second has no value
  fault_meets : (r s : Result A TextFault) (e : TextFault) (y : A) → Meets at P Q r s → r ≡ Err e → token_offset e ≡ Some at → s ≡ Ok y → ⊥
  fault_meets r s e y m is there d = both (subst (λ (q : Result A TextFault). Meets at P Q q s) is m)
    where
      both : Meets at P Q (Err e) s → ⊥
      both (inl elsewhere) = elsewhere there
      both (inr none) = none y d

-- ---- nodes

module _ (at : ℕ) (sizes : Sizes) (version : ℕ) (e : TextFault) (there : token_offset e ≡ Some at) where
  -- where no token lies there, nothing fails there
  next_not : (places : Option ℕ) (count : ℕ) (s : Stream) → NoneIn at s → FailsNext sizes version places count s e → ⊥
  next_not None count s none fails = fails
  next_not (Some zero) count s none fails = fault_stays at (λ _. Unit {0}) (λ _ _. Unit {0}) (end_at s) e
      ((end_alike at).stays tt s none) fails there
  next_not (Some (suc places)) count s none fails = fault_stays at (NoneLeft at) (SharedLeft at) (node_at sizes version count s) e
      ((node_alike at sizes version count).stays tt s none) fails there

  -- the nodes leave none
  nodes_none : (nodes : List Node) (count : ℕ) (s rest : Stream) → NoneIn at s → ReadsNodes sizes version count s nodes rest
      → NoneIn at rest
  nodes_none [] count s rest none reads = subst (NoneIn at) reads none
  nodes_none (n ∷ ns) count s rest none reads =
      nodes_none ns (count + 1) reads.0 rest (value_stays at (NoneLeft at) (SharedLeft at) (node_at sizes version count s) (n, reads.0)
      ((node_alike at sizes version count).stays tt s none) reads.1) reads.2

  pub nodes_not : (places count : ℕ) (s : Stream) → NoneIn at s → NodesFail sizes version places count s e → ⊥
  nodes_not places count s none f = next_not (open_after places f.nodes) (count + length f.nodes) f.rest
      (nodes_none f.nodes count s f.rest none f.reads) f.fails

  -- no node is read before the fault
  here_not : (places count : ℕ) (s u : Stream) → SharedIn at s u → FailsNext sizes version (Some places) count s e
      → (others : List Node) (after ended : Stream) → ReadsNodes sizes version count u others after
      → open_after places others ≡ Some 0 → end_at after ≡ Ok ended → ⊥
  here_not zero count s u shared fails [] after ended reads fills finish =
      fault_meets at (λ _. Unit {0}) (λ _ _. Unit {0}) (end_at s) (end_at u) e ended ((end_alike at).meets s u shared) fails there
      (ap end_at reads ∙ finish)
  here_not zero count s u shared fails (m ∷ ms) after ended reads fills finish = cc
  here_not (suc places) count s u shared fails [] after ended reads fills finish = cc
  here_not (suc places) count s u shared fails (m ∷ ms) after ended reads fills finish =
      fault_meets at (NoneLeft at) (SharedLeft at) (node_at sizes version count s) (node_at sizes version count u) e (m, reads.0)
      ((node_alike at sizes version count).meets s u shared) fails there reads.1

  -- both read a node, and then the others
  node_step : (n m : Node) (ns ms : List Node) (places count k : ℕ) (mid rest other : Stream)
      → ReadsNodes sizes version count mid ns rest → NoneIn at mid ⊎ ((n ≡ m) × SharedIn at mid other)
      → FailsNext sizes version (open_after (suc places) (n ∷ ns)) k rest e → open_after (suc places) (m ∷ ms) ≡ Some 0
      → ((filled : ℕ) → SharedIn at mid other → FailsNext sizes version (open_after filled ns) k rest e → open_after filled ms ≡ Some 0
      → ⊥) → ⊥
  node_step n m ns ms places count k mid rest other reads (inl none) fails fills next =
      next_not (open_after (suc places) (n ∷ ns)) k rest (nodes_none ns count mid rest none reads) fails
  node_step (node.Split g) m ns ms places count k mid rest other reads (inr q) fails fills next =
      next (suc (suc places)) q.1 fails (subst (λ (z : Node). open_after (suc places) (z ∷ ms) ≡ Some 0) (sym q.0) fills)
  node_step (node.Leaf l) m ns ms places count k mid rest other reads (inr q) fails fills next =
      next places q.1 fails (subst (λ (z : Node). open_after (suc places) (z ∷ ms) ≡ Some 0) (sym q.0) fills)

  -- the nodes that are read before the fault are the other's
  both_not : (nodes : List Node) (places count k : ℕ) (s rest u : Stream) → count + length nodes ≡ k → SharedIn at s u
      → ReadsNodes sizes version count s nodes rest
      → FailsNext sizes version (open_after places nodes) k rest e → (others : List Node) (after ended : Stream)
      → ReadsNodes sizes version count u others after
      → open_after places others ≡ Some 0 → end_at after ≡ Ok ended → ⊥
  both_not [] places count k s rest u at_most shared reads fails others after ended other fills finish =
      let same : k ≡ count = omega (arith, at_most) in
      here_not places count s u shared (subst (λ (x : Stream). FailsNext sizes version (Some places) count x e) (sym reads)
      (subst (λ (c : ℕ). FailsNext sizes version (Some places) c rest e) same fails))
      others after ended other fills finish
  both_not (n ∷ ns) zero count k s rest u at_most shared reads fails others after ended other fills finish = fails
  both_not (n ∷ ns) (suc places) count k s rest u at_most shared reads fails [] after ended other fills finish = cc
  both_not (n ∷ ns) (suc places) count k s rest u at_most shared reads fails (m ∷ ms) after ended other fills finish =
      node_step n m ns ms places (count + 1) k reads.0 rest other.0 reads.2
      (values_meet at (NoneLeft at) (SharedLeft at) (node_at sizes version count s) (node_at sizes version count u) (n, reads.0)
      (m, other.0) ((node_alike at sizes version count).meets s u shared) reads.1 other.1)
      fails fills (λ filled more f g. both_not ns filled (count + 1) k reads.0 rest other.0
      (omega (arith, at_most)) more reads.2 f ms after ended other.2 g finish)

-- ---- the whole

module _ (at : ℕ) (sizes : Sizes) (e : TextFault) (there : token_offset e ≡ Some at) where
  -- where no token lies there, reading doesn't fail there
  reading_not : (s : Stream) → NoneIn at s → ReadingFails sizes s e → ⊥
  reading_not s none (inl fails) = fault_stays at (NoneLeft at) (SharedLeft at) (header_at s) e
      ((header_alike at).stays tt s none) fails there
  reading_not s none (inr f) =
      nodes_not at sizes f.version e there 1 0 f.headed
      (value_stays at (NoneLeft at) (SharedLeft at) (header_at s) ((f.version, f.bound), f.headed)
      ((header_alike at).stays tt s none) f.header) f.body

  -- after both headers
  body_never : (f g : ℕ × Bound) (headed other : Stream) → NodesFail sizes f.0 1 0 headed e
      → NoneIn at headed ⊎ ((f ≡ g) × SharedIn at headed other)
      → (tree : Tree) (noded ended : Stream) → ReadsNodes sizes g.0 0 other (preorder tree) noded → end_at noded ≡ Ok ended → ⊥
  body_never f g headed other fails (inl none) tree noded ended reads finish = nodes_not at sizes f.0 e there 1 0 headed none fails
  body_never f g headed other fails (inr q) tree noded ended reads finish =
      both_not at sizes f.0 e there fails.nodes 1 0 (0 + length fails.nodes) headed fails.rest other refl q.1 fails.reads fails.fails
      (preorder tree) noded ended
      (subst (λ (h : ℕ × Bound). ReadsNodes sizes h.0 0 other (preorder tree) noded) (sym q.0) reads) (tree_filled tree) finish

  -- a stream that shares its tokens is no proof
  reading_never : (s u : Stream) → SharedIn at s u → ReadingFails sizes s e → (v : ℕ) (b : Bound) (tree : Tree) → Reads sizes u v b tree → ⊥
  reading_never s u shared (inl fails) v b tree reads =
      fault_meets at (NoneLeft at) (SharedLeft at) (header_at s) (header_at u) e ((v, b), reads.headed)
      ((header_alike at).meets s u shared) fails there reads.header
  reading_never s u shared (inr f) v b tree reads =
      body_never (f.version, f.bound) (v, b) f.headed reads.headed f.body
      (values_meet at (NoneLeft at) (SharedLeft at) (header_at s) (header_at u) ((f.version, f.bound), f.headed) ((v, b), reads.headed)
      ((header_alike at).meets s u shared) f.header reads.header)
      tree reads.noded reads.ended reads.nodes reads.finish

-- ---- the tokens of a stream

module _ (at : ℕ) (keep : Placed → Bool) where
  none_step : (t : Placed) (ts : List Placed) (v : Bool) → keep t ≡ v → t.at ≢ at → NoneAt at (take_while keep ts)
      → NoneAt at (take_while keep (t ∷ ts))
  none_step t ts true e not more = subst (NoneAt at) (sym (while-yes keep t ts e)) (not, more)
  none_step t ts false e not more = subst (NoneAt at) (sym (while-no keep t ts e)) tt

  none_while : (ts : List Placed) → NoneAt at ts → NoneAt at (take_while keep ts)
  none_while [] none = tt
  none_while (t ∷ ts) none = none_step t ts (keep t) refl none.0 (none_while ts none.1)

  shared_step : (t : Placed) (n : ℕ) (ts us : List Placed) (v : Bool) → keep t ≡ v → Shared at (take_while keep ts) us
      → Shared at (take_while keep (t ∷ ts)) (record { text = t.text; at = n } ∷ us)
  shared_step t n ts us true e more = subst (λ (l : List Placed). Shared at l (record { text = t.text; at = n } ∷ us))
      (sym (while-yes keep t ts e)) (Next n more)
  shared_step t n ts us false e more = subst (λ (l : List Placed). Shared at l (record { text = t.text; at = n } ∷ us))
      (sym (while-no keep t ts e)) (Apart tt)

  shared_while : (ts us : List Placed) → Shared at ts us → Shared at (take_while keep ts) us
  shared_while ts us (Apart none) = Apart (none_while ts none)
  shared_while ts us (Next {t} {ts = rest} {us = others} n shared) = shared_step t n rest others (keep t) refl
      (shared_while rest others shared)

-- the fault at the end of a stream lies elsewhere, or it is a token that is too long
ends_where : (at : ℕ) (stop : Result ℕ FeedFault) → EndsElsewhere at stop ⊎ (stop ≡ Err (feed.TokenTooLong at))
ends_where at (Ok n) = inl (λ e. cc)
ends_where at (Err feed.Read) = inl (λ e. cc)
ends_where at (Err feed.TooManyBytes) = inl (λ e. cc)
ends_where at (Err feed.OutOfMemory) = inl (λ e. cc)
ends_where at (Err (feed.TokenTooLong a)) = elim (cases_eq a at) [
  | inl same ↦ inr (ap (λ (x : ℕ). Err (feed.TokenTooLong x)) same)
  | inr not ↦ inl (other_offset at a not)
]

-- no token of a stream lies where none of its bytes does
stream_none : (at : ℕ) (bytes : List ℕ) → NoneAt at (tokens_of bytes) → NoneAt at (stream_of_bytes bytes).tokens
unfolding stream_from
stream_none at bytes none = none_while at (ends_before (fault_from MAX_BYTES 0 0 bytes)) (tokens_of bytes) none

-- the tokens of a stream are shared, as those of its bytes are
stream_shared : (at : ℕ) (bytes : List ℕ) (us : List Placed) → Shared at (tokens_of bytes) us → Shared at (stream_of_bytes bytes).tokens us
unfolding stream_from
stream_shared at bytes us shared = shared_while at (ends_before (fault_from MAX_BYTES 0 0 bytes)) (tokens_of bytes) us shared

-- ---- what a fault that lies at a token says

module _ (at : ℕ) (sizes : Sizes) (bytes : List ℕ) (e : TextFault) (fails : ReadingFails sizes (stream_of_bytes bytes) e)
    (there : token_offset e ≡ Some at) where
  -- that token is in the bytes
  pub token_is_there : Any (λ t. t.at ≡ at) (tokens_of bytes)
  token_is_there = elim (ends_where at (stream_of_bytes bytes).stop) [
    | inr long ↦ long_stands at (tokens_of bytes) (long_token MAX_BYTES at bytes long)
    | inl elsewhere ↦ elim (stands_or_none at (tokens_of bytes)) [
      | inl none ↦ absurd (reading_not at sizes e there (stream_of_bytes bytes) (stream_none at bytes none, elsewhere) fails)
      | inr found ↦ found
    ]
  ]

  -- bytes that begin so spell no proof
  pub others_spell_none : (p : Problem) → IsInstance p → AreSizes p sizes → (other : List ℕ) → BeginsAs at bytes other
      → (v : ℕ) (b : Bound) (tree : Tree) → SpellsProof p other v b tree → ⊥
  others_spell_none p is are other begins v b tree spelled =
      let shared = begins_shared at bytes other begins in
      let short = recursion_from_All (λ t. length t.text ≤ 32) (tokens_of other) spelled.within.tokens in
      let size = spelled.within.size in
      let same = unlimited MAX_BYTES 0 other (omega (arith, size)) short in
      let reads = subst (λ (s : Stream). Reads sizes s v b tree) same
      (spelled_reads p sizes are (are_small p sizes is are) other v b tree spelled) in
      elim (ends_where at (stream_of_bytes bytes).stop) [
        | inr long ↦ long_shared at (tokens_of bytes) (tokens_of other) shared (long_token MAX_BYTES at bytes long) short
        | inl elsewhere ↦ reading_never at sizes e there (stream_of_bytes bytes) _ (
          stream_shared at bytes (tokens_of other) shared,
          elsewhere,
        ) fails v b tree reads
      ]

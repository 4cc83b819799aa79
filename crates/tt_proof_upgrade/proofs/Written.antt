-- Proofs that are written again, and why others aren't.
use Rattle.std.proofs.Common.{◌≡◌, ℕ, List, [], refl, sym, ap, subst, ◌∙◌, ◌⊎◌, inl, inr, append-nil}
use Rattle.std.specs.Prelude.{All, slice_get}
use Rattle.tt_text.specs.Feeds.{Stream}
use Rattle.tt_instance.specs.Problem.{Problem}
use Rattle.tt_instance.specs.Limits.{IsInstance}
use Rattle.tt_leaf.specs.declared.leaf.Bound.{Bound}
use Rattle.tt_leaf.specs.declared.leaf.Claim.{Claim}
use Rattle.tt_leaf.specs.declared.leaf.Claim.TheVariants.{Capacity, Days, Compact, Stable, Prices, Stacked}
use Rattle.tt_leaf.specs.declared.leaf.Leaf.{Leaf}
use Rattle.tt_leaf.specs.declared.leaf.Leaf.TheVariants.{Empty, Many, Clique, Slots, Cost}
use Rattle.tt_proof_read.specs.Reading.{header_at}
use Rattle.tt_proof_read.specs.Reads.{ReadsNodes, Reads}
use Rattle.tt_proof_read.specs.Limits.{IsLeafIn, IsClaimIn}
use Rattle.tt_proof_read.specs.Spelling.{IsNode, SpellsProof}
use Rattle.tt_proof_read.specs.Trees.{Tree, preorder, on_paths}
use Rattle.tt_proof_read.specs.declared.node.Node.{Node}
use Rattle.tt_proof_read.specs.declared.node.Node.TheVariants as node
use Rattle.tt_proof_read.specs.declared.sizes.Sizes.{Sizes}
use Rattle.tt_proof_read.proofs.LeafParts.{leaf_parts, leaf_whole}
use Rattle.tt_proof_read.proofs.ProofLaws.{reads_spelled, spelled_reads}
use Rattle.tt_proof_read.proofs.Small.{are_small}
use Rattle.tt_proof_check.specs.Derives.{Proves}
use Rattle.tt_proof_check.specs.Streams.{IsProved, stream_of, sizes_of, HasHeader}
use Rattle.tt_proof_check.specs.Explains.{FailsAt, IsDeepAt}
use Rattle.tt_proof_check.specs.declared.fault.CheckFault.TheVariants as check
use Rattle.tt_proof_check.proofs.Determined.{begins_whole, same_header, compare}
use Rattle.tt_proof_check.proofs.InOrder.{tree_passes, never_fails, never_deep}
use Rattle.tt_proof_check.proofs.Sizes.{are_sizes_of}
use Rattle.tt_proof_check.proofs.Texts.{only_one, node_read, end_read}
use Rattle.tt_proof_write.specs.Within.{FitsFile, IsNodeIn, Writes}
use Rattle.tt_proof_write.specs.Written.{proof_text}
use Rattle.tt_proof_upgrade.specs.Faults.{IsNodesFault, IsWriteFault}
use Rattle.tt_proof_upgrade.specs.Texts.{IsRead, AreNodesOf, NodeTextFails, EndTextFails}
use Rattle.tt_proof_upgrade.specs.Upgrades.{IsUpgraded, IsUpgradeFault}
use Rattle.tt_proof_upgrade.specs.declared.fault.UpgradeFault.{UpgradeFault}
use Rattle.tt_proof_upgrade.specs.declared.fault.UpgradeFault.TheVariants.{Proof, TooLarge}

-- ---- each claim is of version 2

claim_in_two : (claim : Claim) → IsClaimIn 2 claim
claim_in_two (Capacity c u) = tt
claim_in_two (Days c) = tt
claim_in_two (Compact q) = tt
claim_in_two (Stable c) = tt
claim_in_two (Prices courses rooms) = refl
claim_in_two (Stacked c) = refl

leaf_in_two : (leaf : Leaf) → IsLeafIn 2 leaf
leaf_in_two (Empty g) = tt
leaf_in_two (Many c) = tt
leaf_in_two (Clique cs) = tt
leaf_in_two (Slots cs) = tt
leaf_in_two (Cost claims) = λ k x h. claim_in_two _

pub node_in_two : (n : Node) → IsNodeIn 2 n
node_in_two (node.Split g) = tt
node_in_two (node.Leaf leaf) = leaf_in_two leaf

node_of_two : (p : Problem) (v : ℕ) (n : Node) → IsNode p v n → IsNode p 2 n
node_of_two p v (node.Split g) h = h
node_of_two p v (node.Leaf leaf) h = let parts = leaf_parts p v leaf h in leaf_whole p 2 leaf parts.0 parts.1 (leaf_in_two leaf)

-- ---- one text has one tree

same_tree : (x y : Tree) (nodes : List Node) → preorder x ≡ nodes → preorder y ≡ nodes → x ≡ y
same_tree x y nodes e d = (begins_whole x y [] (e ∙ sym d ∙ sym (append-nil (preorder y)))).0

same_text : (sizes : Sizes) (s : Stream) (w v : ℕ) (b c : Bound) (tree other : Tree) → Reads sizes s w b tree → Reads sizes s v c other
    → (b ≡ c) × (tree ≡ other)
same_text sizes s w v b c tree other r q =
    let same = same_header ((w, b), r.headed) ((v, c), q.headed) (sym r.header ∙ q.header) in
    let nodes = subst (λ (x : (ℕ × Bound) × Stream). ReadsNodes sizes x.0.0 0 x.1 (preorder other) q.noded) (sym same) q.nodes in (
      ap (λ (x : (ℕ × Bound) × Stream). x.0.1) same,
      elim (compare sizes w 0 r.headed r.noded q.noded (preorder tree) (preorder other) r.nodes nodes) [
        | inl m ↦ sym (begins_whole other tree m.0 (sym m.1)).0
        | inr m ↦ (begins_whole tree other m.0 (sym m.1)).0
      ],
    )

module _ (p : Problem) (s : Stream) (v : ℕ) (b : Bound) (nodes : List Node) (r : IsRead p s v b nodes) where
  read_as : (tree : Tree) → preorder tree ≡ nodes → Reads (sizes_of p) s v b tree
  read_as tree e = subst (λ (t : Tree). Reads (sizes_of p) s v b t) (same_tree r.tree tree nodes r.nodes_are e) r.reads

  -- the first node that doesn't pass is reported
  pub nodes_tell : (e : UpgradeFault) → IsNodesFault p b nodes e → IsUpgradeFault p s e
  nodes_tell (Proof (check.Text f)) t = absurd t
  nodes_tell (Proof (check.Rule i f)) t = record { version = v; bound = b; tree = t.0; reads = read_as t.0 t.1; is = t.2 }
  nodes_tell (Proof (check.TooDeep i)) t = record { version = v; bound = b; tree = t.0; reads = read_as t.0 t.1; is = t.2 }
  nodes_tell TooLarge t = absurd t

  module _ (h : Proves p [] b nodes) where
    -- a text that grows too large is reported
    pub write_tells : (f : UpgradeFault) → IsWriteFault b nodes f → IsUpgradeFault p s f
    write_tells (Proof f) t = absurd t
    write_tells TooLarge t = record {
      version = v;
      bound = b;
      tree = h.0;
      reads = read_as h.0 h.1;
      is = record { shallow = h.2; derives = h.3; large = λ fits. t (subst (FitsFile 2 b) h.1 fits) };
    }

-- a proof that was read, checked and written is written again
pub upgraded : (p : Problem) (bytes out : List ℕ) (v : ℕ) (b : Bound) (nodes : List Node) → IsRead p (stream_of bytes) v b nodes
    → Proves p [] b nodes → AreNodesOf p v nodes → Writes 2 b nodes out
    → ((tree : Tree) → preorder tree ≡ nodes → All (IsNode p 2) nodes → SpellsProof p out 2 b tree) → IsUpgraded p bytes b out
upgraded p bytes out v b nodes r h are w again = record {
  version = v;
  tree = h.0;
  spelled = reads_spelled p (sizes_of p) (are_sizes_of p) bytes v b h.0 h.2 (read_as p (stream_of bytes) v b nodes r h.0 h.1);
  derives = h.3;
  text = w.text ∙ ap (proof_text 2 b) (sym h.1);
  again = again h.0 h.1 (λ k n e. node_of_two p v _ (are.each k n e));
}

-- -- a text that derives its bound is refused only if it grows too large

module _ (p : Problem) (is : IsInstance p) (bytes : List ℕ) (b : Bound) (proved : IsProved p [] bytes b) where
  abbrev tree : Tree
  tree = proved.1

  reads : Reads (sizes_of p) (stream_of bytes) proved.0 b tree
  reads = spelled_reads p (sizes_of p) (are_sizes_of p) (are_small p (sizes_of p) is (are_sizes_of p)) bytes proved.0 b tree proved.2

  header_is : (P : ℕ → Bound → Stream → Type 0) → HasHeader (stream_of bytes) P → P proved.0 b reads.headed
  header_is P h = subst (λ (x : (ℕ × Bound) × Stream). P x.0.0 x.0.1 x.1)
      (same_header ((h.0, h.1), h.2) ((proved.0, b), reads.headed) (sym h.3 ∙ reads.header)) h.4

  -- the bound read is this one
  pub bound_read : (v : ℕ) (c : Bound) (nodes : List Node) → IsRead p (stream_of bytes) v c nodes → c ≡ b
  bound_read v c nodes r = (same_text (sizes_of p) (stream_of bytes) v proved.0 c b r.tree tree r.reads reads).0

  pub only_large : (e : UpgradeFault) → IsUpgradeFault p (stream_of bytes) e → e ≡ TooLarge
  only_large (Proof (check.Text f)) (inl h) = absurd (only_one (header_at (stream_of bytes)) ((proved.0, b), reads.headed) f reads.header h)
  only_large (Proof (check.Text f)) (inr h) =
      absurd (elim (header_is (λ v c rest. NodeTextFails (sizes_of p) v rest f ⊎ EndTextFails p v rest f) h) [
        | inl a ↦ node_read p proved.0 reads.headed reads.noded tree reads.nodes f a.nodes a.rest a.tree a.next a.more a.reads a.begins
            a.fails
        | inr a ↦ end_read p proved.0 reads.headed reads.noded tree reads.nodes reads.ended reads.finish f a.tree a.rest a.reads a.fails
      ])
  only_large (Proof (check.Rule i f)) h =
      let same = same_text (sizes_of p) (stream_of bytes) h.version proved.0 h.bound b h.tree tree h.reads reads in
      let here = subst (λ (c : Bound). FailsAt p [] c h.tree i f) same.0 h.is in
      absurd (never_fails p [] b tree h.tree i f (tree_passes p [] b tree proved.4 proved.3)
      (ap (λ (t : Tree). slice_get (on_paths [] t) i) (sym same.1)) here)
  only_large (Proof (check.TooDeep i)) h =
      let same = same_text (sizes_of p) (stream_of bytes) h.version proved.0 h.bound b h.tree tree h.reads reads in
      let here = subst (λ (c : Bound). IsDeepAt p [] c h.tree i) same.0 h.is in
      absurd (never_deep p [] b tree h.tree i (tree_passes p [] b tree proved.4 proved.3)
      (ap (λ (t : Tree). slice_get (on_paths [] t) i) (sym same.1)) here)
  only_large TooLarge h = refl

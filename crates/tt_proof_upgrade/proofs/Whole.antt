-- Proofs that were read as a whole.
use Rattle.std.proofs.Common.{◌≡◌, ℕ, Bool, true, List, Some, Option, Ok, Err, sym, ap, subst, inl, inr, is_some}
use Rattle.tt_text.specs.Feeds.{Stream, stream_at, fresh}
use Rattle.tt_instance.specs.Problem.{Problem}
use Rattle.tt_leaf.specs.declared.leaf.Bound.{Bound}
use Rattle.tt_proof_read.specs.Reading.{header_at, end_at}
use Rattle.tt_proof_read.specs.Reads.{ReadsNodes}
use Rattle.tt_proof_read.specs.Sizes.{AreSizes}
use Rattle.tt_proof_read.specs.Trees.{preorder}
use Rattle.tt_proof_read.specs.declared.fault.TextFault.{TextFault}
use Rattle.tt_proof_read.specs.declared.node.Node.{Node}
use Rattle.tt_proof_read.specs.declared.sizes.Sizes.{Sizes}
use Rattle.tt_proof_check.specs.Streams.{sizes_of}
use Rattle.tt_proof_check.proofs.Sizes.{sizes_are}
use Rattle.tt_proof_upgrade.specs.Texts.{IsRead, IsCollected, NodeTextFails, IsTextFault}

module _ (p : Problem) (sizes : Sizes) (are : AreSizes p sizes) (s : Stream) (v : ℕ) (b : Bound) (headed : Stream)
    (header : header_at s ≡ Ok ((v, b), headed)) where
  -- reading the nodes fails
  pub nodes_break : (f : TextFault) → NodeTextFails sizes v headed f → IsTextFault p s f
  nodes_break f h = inr (v, b, headed, header, inl (subst (λ (x : Sizes). NodeTextFails x v headed f) (sizes_are p sizes are) h))

  module _ (known : Bool) (k : known ≡ true) (noded : Stream) (nodes : List Node) (c : IsCollected sizes v known headed noded nodes) where
    reads : ReadsNodes (sizes_of p) v 0 headed (preorder c.tree.0) noded
    reads = subst (λ (x : Sizes). ReadsNodes x v 0 headed (preorder c.tree.0) noded) (sizes_are p sizes are)
        (subst (λ (l : List Node). ReadsNodes sizes v 0 headed l noded) (sym c.tree.1) (c.reads k))

    pub end_breaks : (f : TextFault) → end_at noded ≡ Err f → IsTextFault p s f
    end_breaks f fails = inr (v, b, headed, header, inr (record { tree = c.tree.0; rest = noded; reads = reads; fails = fails }))

    pub is_read : (ended : Stream) → end_at noded ≡ Ok ended → IsRead p s v b nodes
    is_read ended finish = record {
      tree = c.tree.0;
      nodes_are = c.tree.1;
      reads = record { headed = headed; noded = noded; ended = ended; header = header; nodes = reads; finish = finish };
    }

-- a property of the stream, for bytes that are known
pub of_bytes : (P : Stream → Type 0) (bytes : List ℕ) (known : Option (List ℕ)) → known ≡ Some bytes
    → (is_some known ≡ true → P (stream_at fresh known)) → P (stream_at fresh (Some bytes))
of_bytes P bytes known e h = subst (λ (k : Option (List ℕ)). P (stream_at fresh k)) e (h (ap is_some e))

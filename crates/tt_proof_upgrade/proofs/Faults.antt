-- The faults of the nodes of a tree.
use Rattle.std.proofs.Common.{◌≡◌, refl, Bool, true, false, if◌then◌else◌, ℕ, ◌≤◌, ◌<◌, List, [], length, Some, sym, ap, ◌∙◌, subst, arith}
use Rattle.std.specs.Prelude.{slice_get}
use Rattle.std.proofs.lemmas.Option.{slice_get_within}
use Rattle.tt_text.specs.declared.feed.FeedFault.TheVariants as feed
use Rattle.tt_text.specs.Stops.{OnFault, mapped, is_failed_read}
use Rattle.tt_text.specs.declared.stop.Stop.{Stop}
use Rattle.tt_text.specs.declared.stop.Stop.TheVariants.{Fault, ReadFailed, OutOfMemory}
use Rattle.tt_instance.specs.Problem.{Problem}
use Rattle.tt_leaf.specs.declared.leaf.Bound.{Bound}
use Rattle.tt_proof_read.specs.Faults as read
use Rattle.tt_proof_read.specs.Faults.{is_environmental, read_failed}
use Rattle.tt_proof_read.specs.Trees.{Tree, preorder, OnPath, on_paths, IsPreorder}
use Rattle.tt_proof_read.specs.declared.fault.TextFault.{TextFault}
use Rattle.tt_proof_read.specs.declared.fault.TextFault.TheVariants as text
use Rattle.tt_proof_read.specs.declared.node.Node.{Node}
use Rattle.tt_proof_check.specs.Explains.{Explains}
use Rattle.tt_proof_check.specs.Faults as checks
use Rattle.tt_proof_check.specs.declared.fault.CheckFault.TheVariants as check
use Rattle.tt_proof_check.specs.declared.fault.NodesFault.{NodesFault}
use Rattle.tt_proof_check.specs.declared.fault.NodesFault.TheVariants.{NotATree, Rule, TooDeep}
use Rattle.tt_proof_check.proofs.Reading.{place, length-places_of, whole_places, whole_stack}
use Rattle.tt_proof_check.proofs.TextFaults.{stop_cases}
use Rattle.tt_proof_upgrade.specs.Faults.{stop_from_text, IsOfNode, IsFaultOfNode, IsNodesFault, IsWriteFault, HoldsNoStop}
use Rattle.tt_proof_upgrade.specs.declared.fault.UpgradeFault.{UpgradeFault}
use Rattle.tt_proof_upgrade.specs.declared.fault.UpgradeFault.TheVariants as upgrade

-- a tree has a path for each of its nodes
paths_of : (tree : Tree) (nodes : List Node) → preorder tree ≡ nodes → length (on_paths [] tree) ≡ length nodes
paths_of tree nodes e = ap length (sym (whole_places [] tree nodes e)) ∙ length-places_of (place []) [] nodes (whole_stack [] tree nodes e)

place_small : (tree : Tree) (nodes : List Node) (i : ℕ) (x : OnPath) → preorder tree ≡ nodes → length nodes ≤ 16777216
    → slice_get (on_paths [] tree) i ≡ Some x → i < 4294967296
place_small tree nodes i x e at_most found =
    let h = slice_get_within (on_paths [] tree) i x found in
    let k = paths_of tree nodes e in
    omega (arith, h, k, at_most)

-- the number of the wrong node has 32 bits
pub is_of_node : (p : Problem) (b : Bound) (nodes : List Node) → IsPreorder nodes → length nodes ≤ 16777216 → (e : NodesFault)
    → Explains p [] b nodes e → IsOfNode e
is_of_node p b nodes tree at_most NotATree t = absurd (t tree)
is_of_node p b nodes tree at_most (Rule i f) t = place_small t.0 nodes i _ t.1 at_most t.2.found
is_of_node p b nodes tree at_most (TooDeep i) t = place_small t.0 nodes i _ t.1 at_most t.2.found

pub fault_of_node : (p : Problem) (b : Bound) (nodes : List Node) (e : NodesFault) (u : UpgradeFault) → IsFaultOfNode e u
    → Explains p [] b nodes e → IsNodesFault p b nodes u
fault_of_node p b nodes NotATree u is t = absurd is
fault_of_node p b nodes (Rule i f) u is t = subst (IsNodesFault p b nodes) (sym is) t
fault_of_node p b nodes (TooDeep i) u is t = subst (IsNodesFault p b nodes) (sym is) t

-- why an upgrade is stopped by a fault of the reader
module _ (f : TextFault) (x : Stop UpgradeFault) (is : x ≡ stop_from_text f) where
  at_text : (Q : Stop UpgradeFault → Type 0) → Q OutOfMemory → (f ≡ read_failed → Q ReadFailed)
      → (is_environmental f ≡ false → checks.HoldsNoStop (check.Text f) → Q (Fault (upgrade.Proof (check.Text f)))) → Q x
  at_text Q a r b = subst Q (sym is) (stop_cases f (λ y. Q (mapped upgrade.Proof y)) a r b)

  -- a property of the fault that the upgrade reports
  pub text_reported : (P : UpgradeFault → Type 0) → (is_environmental f ≡ false → P (upgrade.Proof (check.Text f))) → OnFault x P
  text_reported P h = at_text (λ y. OnFault y P) tt (λ failed. tt) (λ calm kept. h calm)

  pub text_lower : OnFault x HoldsNoStop
  text_lower = at_text (λ y. OnFault y HoldsNoStop) tt (λ failed. tt) (λ calm kept. kept)

  pub text_read : x ≡ ReadFailed → f ≡ read_failed
  text_read = at_text (λ y. y ≡ ReadFailed → f ≡ read_failed) (λ e. absurd cc) (λ failed e. failed) (λ calm kept e. absurd cc)

  pub text_failed : (before after : Bool) → after ≡ (if read.is_failed_read f then true else before)
      → after ≡ (if is_failed_read x then true else before)
  text_failed before after h = h ∙ ap (λ (b : Bool). if b then true else before)
      (of_check f ∙ ap (λ (y : Stop UpgradeFault). is_failed_read y) (sym is))
    where
      of_check : (f : TextFault) → read.is_failed_read f ≡ is_failed_read (stop_from_text f)
      of_check text.OutOfMemory = refl
      of_check (text.Feed feed.Read) = refl
      of_check (text.Feed feed.OutOfMemory) = refl
      of_check f = refl

-- a fault of a node, or one of writing, holds no fault of memory or of a failed read
pub nodes_lower : (p : Problem) (b : Bound) (nodes : List Node) (f : UpgradeFault) → IsNodesFault p b nodes f → HoldsNoStop f
nodes_lower p b nodes (upgrade.Proof (check.Text f)) t = absurd t
nodes_lower p b nodes (upgrade.Proof (check.Rule i f)) t = tt
nodes_lower p b nodes (upgrade.Proof (check.TooDeep i)) t = tt
nodes_lower p b nodes upgrade.TooLarge t = absurd t

pub write_lower : (b : Bound) (nodes : List Node) (f : UpgradeFault) → IsWriteFault b nodes f → HoldsNoStop f
write_lower b nodes (upgrade.Proof f) t = absurd t
write_lower b nodes upgrade.TooLarge t = tt

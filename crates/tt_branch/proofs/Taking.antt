-- Nodes of a tree that are written, the last one first.
use Rattle.std.proofs.Common.{◌≡◌, ℕ, ◌+◌, ◌<◌, Bool, true, List, [], ◌∷◌, ◌++◌, take, get_or, length, Option, Some, None, refl, sym, ap, ◌∙◌, subst, append_assoc}
use Rattle.std.specs.Prelude.{All}
use Rattle.std.specs.List.{cons_option}
use Rattle.std.proofs.lemmas.List.{take_more, reverse-append}
use Rattle.std.proofs.lemmas.List.Elements.{All-get_or}
use Rattle.tt_instance.specs.Problem.{Problem}
use Rattle.tt_path.specs.Live.{least}
use Rattle.tt_path.specs.declared.facts.Fact.{Fact}
use Rattle.tt_proof_read.specs.declared.node.Node.{Node}
use Rattle.tt_branch.specs.declared.tree_node.TreeNode.{TreeNode}
use Rattle.tt_branch.specs.declared.links.Link.{Link}
use Rattle.tt_branch.specs.Inner.Growing.{node_at, worth_at, nodes_of, worths_of}
use Rattle.tt_branch.specs.Inner.Steps.{lower}
use Rattle.tt_branch.specs.Inner.Written.{IsWritable, IsTaken}

-- the node at a place is one of all nodes
pub writable_here : (p : Problem) (root : List Fact) (links : List Link) (all : List TreeNode) (k : ℕ) (e : TreeNode)
    → All (IsWritable p root links) all → k < length all → e ≡ get_or all k e → IsWritable p root links e
writable_here p root links all k e each h is =
    subst (IsWritable p root links) (sym is) (All-get_or (IsWritable p root links) all k e h each)

lower-least : (o : Option ℕ) (ns : List ℕ) → lower o (least ns) ≡ least (cons_option o ns)
lower-least None ns = refl
lower-least (Some n) ns = refl

-- the last of the nodes left is written
pub taken_more : (p : Problem) (root : List Fact) (links : List Link) (valued : Bool) (all : List TreeNode) (k : ℕ) (e : TreeNode)
    (nodes more : List Node) (lowest next : Option ℕ) → IsTaken p root links valued all (take (k + 1) all) nodes lowest → k < length all
    → e ≡ get_or all k e → more ≡ nodes ++ node_at p root links e ∷ []
    → (valued ≡ true → next ≡ lower (worth_at p root links e) lowest) → IsTaken p root links valued all (take k all) more next
taken_more p root links valued all k e nodes more lowest next t h is written low = record {
  done = e ∷ t.done;
  split = t.split ∙ ap (λ l. l ++ t.done) (take_more all k e h ∙ ap (λ x. take k all ++ x ∷ []) (sym is))
      ∙ append_assoc (take k all) (e ∷ []) t.done;
  written = written ∙ ap (λ l. l ++ node_at p root links e ∷ []) t.written
      ∙ sym (reverse-append (node_at p root links e ∷ []) (nodes_of p root links t.done));
  lowest_is = λ v. low v ∙ ap (lower (worth_at p root links e)) (t.lowest_is v)
      ∙ lower-least (worth_at p root links e) (worths_of p root links t.done);
}

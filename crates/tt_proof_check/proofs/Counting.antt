-- Nodes that are read in turn.
use Rattle.std.proofs.Common.{◌≡◌, ℕ, ◌+◌, ◌<◌, List, [], ◌∷◌, ◌++◌, length, take, drop, get_or, sym, ap, ◌∙◌, arith, append_assoc}
use Rattle.std.proofs.lemmas.List.{take_more, take-append-drop}
use Rattle.tt_path.specs.declared.facts.Fact.{Fact}
use Rattle.tt_proof_read.specs.Readers.{places_after}
use Rattle.tt_proof_read.specs.declared.node.Node.{Node}
use Rattle.tt_proof_read.specs.declared.node.Node.TheVariants as node
use Rattle.tt_proof_check.proofs.Reading.{Stack, next_stack}

-- the first nodes, with another one
pub take_next : (nodes : List Node) (i : ℕ) (n : Node) → i < length nodes → n ≡ get_or nodes i n
    → take (i + 1) nodes ≡ take i nodes ++ n ∷ []
take_next nodes i n h e = take_more nodes i n h ∙ ap (λ x. take i nodes ++ x ∷ []) (sym e)

-- the nodes before a node, the node, and the rest
pub split_at : (nodes : List Node) (i : ℕ) (n : Node) → i < length nodes → n ≡ get_or nodes i n → nodes ≡ take i nodes ++ n ∷ drop
    (i + 1) nodes
split_at nodes i n h e =
    sym (take-append-drop (i + 1) nodes) ∙ ap (λ l. l ++ drop (i + 1) nodes) (take_next nodes i n h e)
    ∙ append_assoc (take i nodes) (n ∷ []) (drop (i + 1) nodes)

-- the number of open places after a node
pub next_places : (path : List Fact) (rest : Stack) (n : Node) (places : ℕ) → length (path ∷ rest) ≡ places
    → length (next_stack path rest n) ≡ places_after n places
next_places path rest (node.Split g) places e = omega (arith, e)
next_places path rest (node.Leaf leaf) places e = omega (arith, e)

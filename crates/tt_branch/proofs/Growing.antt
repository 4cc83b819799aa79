-- A tree grows at a leaf, and the properties of its other nodes are preserved.
use Rattle.std.proofs.Common.{◌≡◌, true, false, List, [], ◌∷◌, ◌++◌, sym, ap, ◌∙◌, inl, inr, append_assoc}
use Rattle.std.proofs.lemmas.List.{append-nil}
use Rattle.tt_list_laws.proofs.Cuts.{cut_cases}
use Rattle.tt_path.specs.declared.facts.Fact.{Fact}
use Rattle.tt_leaf.specs.declared.leaf.Leaf.{Leaf}
use Rattle.tt_proof_read.specs.Trees.{Tree, Tip, Fork, OnPath, on_paths, with_fact}
use Rattle.tt_proof_read.specs.declared.node.Node.{Node}
use Rattle.tt_proof_read.specs.declared.node.Node.TheVariants as node

abbrev pub on_path : List Fact → Node → OnPath
on_path path n = record { path = path; node = n }

-- -- a tree that replaces a leaf

abbrev path_of : List Fact → List OnPath → List Fact
path_of d [] = d
path_of d (x ∷ xs) = x.path

abbrev node_at : Node → List OnPath → Node
node_at d [] = d
node_at d (x ∷ xs) = x.node

no_more : (xs : List OnPath) (y : OnPath) (zs : List OnPath) → [] ≡ xs ++ y ∷ zs → ⊥
no_more [] y zs k = cc
no_more (x ∷ xs) y zs k = cc

-- the tree with another tree replacing a leaf
pub graft : (root : List Fact) (tree : Tree) (before : List OnPath) (path : List Fact) (leaf : Leaf) (after : List OnPath)
    → on_paths root tree ≡ before ++ on_path path (node.Leaf leaf) ∷ after → (sub : Tree)
    → (grown : Tree) × (on_paths root grown ≡ before ++ (on_paths path sub ++ after))
graft root (Tip l) [] path leaf after e sub =
    let p : root ≡ path = ap (path_of root) e in
    let t : [] ≡ after = cc in
    (sub, ap (λ q. on_paths q sub) p ∙ sym (append-nil (on_paths path sub)) ∙ ap (λ z. on_paths path sub ++ z) t)
graft root (Tip l) (b ∷ before) path leaf after e sub =
    let t : [] ≡ before ++ on_path path (node.Leaf leaf) ∷ after = cc in
    absurd (no_more before (on_path path (node.Leaf leaf)) after t)
graft root (Fork h a c) [] path leaf after e sub =
    let k : node.Split h ≡ node.Leaf leaf = ap (node_at (node.Split h)) e in
    absurd (cc)
graft root (Fork h a c) (b ∷ before) path leaf after e sub =
    let here = on_path root (node.Split h) in
    let ls = on_paths (with_fact root h true) a in
    let rs = on_paths (with_fact root h false) c in
    let y = on_path path (node.Leaf leaf) in
    let top : here ≡ b = cc in
    let rest : ls ++ rs ≡ before ++ y ∷ after = cc in
    elim (cut_cases ls rs before y after rest) [
      | inl w ↦
          let r = graft (with_fact root h true) a before path leaf w.0 w.1 sub in (
            Fork h r.0 c,
            ap (λ l. here ∷ (l ++ rs)) r.1 ∙ ap (λ z. z ∷ ((before ++ (on_paths path sub ++ w.0)) ++ rs)) top
                ∙ ap (λ l. b ∷ l) (append_assoc before (on_paths path sub ++ w.0) rs
                ∙ ap (λ l. before ++ l) (append_assoc (on_paths path sub) w.0 rs ∙ ap (λ l. on_paths path sub ++ l) (sym w.2))),
          )
      | inr w ↦
          let r = graft (with_fact root h false) c w.0 path leaf after w.2 sub in (
            Fork h a r.0,
            ap (λ l. here ∷ (ls ++ l)) r.1 ∙ ap (λ z. z ∷ (ls ++ (w.0 ++ (on_paths path sub ++ after)))) top
                ∙ ap (λ l. b ∷ l) (sym (append_assoc ls w.0 (on_paths path sub ++ after)) ∙ ap (λ l. l ++ (on_paths path sub ++ after))
                (sym w.1)),
          )
    ]

-- A text spells at most one tree: reading it is deterministic, and no tree is a proper prefix of another.
use Rattle.std.proofs.Common.{◌≡◌, ℕ, suc, zero, ◌+◌, ◌<◌, List, [], ◌∷◌, ◌++◌, length, Result, Ok, refl, sym, ap, subst, ◌∙◌, arith, append_assoc, append-nil, ◌⊎◌, inl, inr}
use Rattle.std.specs.Prelude.{slice_get}
use Rattle.tt_text.specs.Feeds.{Stream}
use Rattle.tt_path.specs.declared.facts.Fact.{Fact}
use Rattle.tt_leaf.specs.declared.leaf.Bound.{Bound}
use Rattle.tt_proof_read.specs.Reads.{ReadsNodes}
use Rattle.tt_proof_read.specs.Trees.{Tree, Tip, Fork, preorder, on_paths}
use Rattle.tt_proof_read.specs.declared.fault.TextFault.{TextFault}
use Rattle.tt_proof_read.specs.declared.node.Node.{Node}
use Rattle.tt_proof_read.specs.declared.sizes.Sizes.{Sizes}
use Rattle.tt_proof_check.proofs.Reading.{Stack, place, next_stack, places_of, whole_places}

-- no tree is a proper prefix of another
pub prefix_free : (x y : Tree) (xs ys : List Node) → preorder x ++ xs ≡ preorder y ++ ys → (x ≡ y) × (xs ≡ ys)
prefix_free (Tip l) (Tip m) xs ys e = let a : l ≡ m = cc in let b : xs ≡ ys = cc in (ap Tip a, b)
prefix_free (Tip l) (Fork g x y) xs ys e = cc
prefix_free (Fork g x y) (Tip l) xs ys e = cc
prefix_free (Fork g a b) (Fork h c d) xs ys e =
    let root : g ≡ h = cc in
    let behind : (preorder a ++ preorder b) ++ xs ≡ (preorder c ++ preorder d) ++ ys = cc in
    let first = prefix_free a c (preorder b ++ xs) (preorder d ++ ys) (sym (append_assoc (preorder a) (preorder b) xs) ∙ behind
    ∙ append_assoc (preorder c) (preorder d) ys) in
    let second = prefix_free b d xs ys first.1 in
    (ap (λ q. Fork q a b) root ∙ ap (λ t. Fork h t b) first.0 ∙ ap (Fork h c) second.0, second.1)

-- a tree that begins with a whole tree is that tree, and nothing follows
pub begins_whole : (x y : Tree) (more : List Node) → preorder x ≡ preorder y ++ more → (x ≡ y) × ([] ≡ more)
begins_whole x y more e = prefix_free x y [] more (append-nil (preorder x) ∙ e)

abbrev ok_node : Node × Stream → Result (Node × Stream) TextFault
ok_node x = Ok x

same_node : (x y : Node × Stream) → ok_node x ≡ ok_node y → x ≡ y
same_node x y e = cc

abbrev ok_header : (ℕ × Bound) × Stream → Result ((ℕ × Bound) × Stream) TextFault
ok_header x = Ok x

pub same_header : (x y : (ℕ × Bound) × Stream) → ok_header x ≡ ok_header y → x ≡ y
same_header x y e = cc

-- of two readings of one stream, one continues where the other ends
pub compare : (sizes : Sizes) (v count : ℕ) (s t u : Stream) (ms ns : List Node) → ReadsNodes sizes v count s ms t
    → ReadsNodes sizes v count s ns u
    → ((more : List Node) × (ms ++ more ≡ ns) × ReadsNodes sizes v (count + length ms) t more u)
    ⊎ ((more : List Node) × (ns ++ more ≡ ms) × ReadsNodes sizes v (count + length ns) u more t)
compare sizes v count s t u [] ns r q =
    let k : count ≡ count + 0 = omega arith in
    inl (ns, refl, subst (λ (n : ℕ). ReadsNodes sizes v n t ns u) k (subst (λ (x : Stream). ReadsNodes sizes v count x ns u) r q))
compare sizes v count s t u (a ∷ ms) [] r q =
    let k : count ≡ count + 0 = omega arith in
    inr (
      a ∷ ms,
      refl,
      subst (λ (n : ℕ). ReadsNodes sizes v n u (a ∷ ms) t) k
          (subst (λ (x : Stream). ReadsNodes sizes v count x (a ∷ ms) t) q r),
    )
compare sizes v count s t u (a ∷ ms) (b ∷ ns) r q =
    let same = same_node (a, r.0) (b, q.0) (sym r.1 ∙ q.1) in
    let node : a ≡ b = ap (λ (x : Node × Stream). x.0) same in
    let mid : r.0 ≡ q.0 = ap (λ (x : Node × Stream). x.1) same in
    let here : (l : List Node) → count + 1 + length l ≡ count + suc (length l) = λ l. omega arith in
    elim (compare sizes v (count + 1) q.0 t u ms ns (subst (λ (x : Stream). ReadsNodes sizes v (count + 1) x ms t) mid r.2) q.2) [
      | inl m ↦ inl (m.0, ap (λ l. a ∷ l) m.1 ∙ ap (λ n. n ∷ ns) node, subst (λ (n : ℕ). ReadsNodes sizes v n t m.0 u) (here ms) m.2)
      | inr m ↦ inr (m.0, ap (λ l. b ∷ l) m.1 ∙ ap (λ n. n ∷ ms) (sym node), subst (λ (n : ℕ). ReadsNodes sizes v n u m.0 t) (here ns) m.2)
    ]

get_place : (stack : Stack) (nodes more : List Node) (i : ℕ) → i < length nodes → slice_get (places_of stack (nodes ++ more)) i
    ≡ slice_get (places_of stack nodes) i
get_place stack [] more i h = absurd (omega arith)
get_place [] (n ∷ ns) more i h = refl
get_place (path ∷ rest) (n ∷ ns) more zero h = refl
get_place (path ∷ rest) (n ∷ ns) more (suc i) h = get_place (next_stack path rest n) ns more i (omega arith)

-- two trees that begin with the same nodes have them on the same paths
pub same_place : (root : List Fact) (x y : Tree) (nodes xs ys : List Node) (i : ℕ) → preorder x ≡ nodes ++ xs → preorder y ≡ nodes ++ ys
    → i < length nodes → slice_get (on_paths root x) i ≡ slice_get (on_paths root y) i
same_place root x y nodes xs ys i e d h =
    ap (λ l. slice_get l i) (sym (whole_places root x (nodes ++ xs) e)) ∙ get_place (place root) nodes xs i h
    ∙ sym (get_place (place root) nodes ys i h) ∙ ap (λ l. slice_get l i) (whole_places root y (nodes ++ ys) d)

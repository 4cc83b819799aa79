-- The facts that two paths begin with.
use Rattle.std.proofs.Common.{◌≡◌, ℕ, ◌+◌, ◌-◌, ◌<◌, ◌≤◌, List, [], ◌∷◌, ◌++◌, length, take, drop, get_or, append_assoc, length-append, Some, sym, ap, ◌∙◌, arith}
use Rattle.std.specs.Prelude.{reverse, slice_get}
use Rattle.std.proofs.lemmas.List.{reverse-append, take-append-drop, take_more, drop_more}
use Rattle.std.proofs.Math.Seq.{take-append_seam}
use Rattle.std.proofs.lemmas.Option.{get_or_from_slice_get}
use Rattle.tt_path.specs.declared.facts.Fact.{Fact}
use Rattle.tt_branch.specs.Inner.Links.{IsRooted}

-- with one fact fewer
pub one_fewer : {X : Type 0} (all xs ys : List X) (x : X) → xs ≡ take (length xs) all → xs ≡ ys ++ x ∷ [] → ys ≡ take (length ys) all
one_fewer all xs ys x whole last =
    let rest = drop (length xs) all in
    let split : all ≡ ys ++ (x ∷ rest) = sym (take-append-drop (length xs) all) ∙ ap (λ l. l ++ rest) (sym whole ∙ last)
    ∙ append_assoc ys (x ∷ []) rest in
    sym (ap (take (length ys)) split ∙ take-append_seam ys (x ∷ rest))

pub shorter : {X : Type 0} (xs ys : List X) (x : X) → xs ≡ ys ++ x ∷ [] → length xs ≡ length ys + 1
shorter xs ys x last = ap length last ∙ length-append ys (x ∷ [])

-- the facts that stay, those of the root first, and the others
pub joined : {X : Type 0} (old facts : List X) (root kept : ℕ) → root ≤ kept → kept ≤ root + length facts
    → take kept old ≡ take root old ++ reverse (drop (root + length facts - kept) facts)
    → take kept old ++ reverse (take (length facts - (kept - root)) facts) ≡ take root old ++ reverse facts
joined old facts root kept above within same =
    let n = length facts - (kept - root) in
    let left : root + length facts - kept ≡ n = omega arith in
    ap (λ l. l ++ reverse (take n facts)) (same ∙ ap (λ m. take root old ++ reverse (drop m facts)) left)
    ∙ append_assoc (take root old) (reverse (drop n facts)) (reverse (take n facts))
    ∙ ap (λ l. take root old ++ l) (sym (reverse-append (take n facts) (drop n facts)) ∙ ap reverse (take-append-drop n facts))

-- another fact is the same
pub one_more : {X : Type 0} (old facts front : List X) (index left : ℕ) (x d : X) → index < length old → 0 < left → left ≤ length facts
    → slice_get old index ≡ Some x → x ≡ get_or facts (left - 1) d → take index old ≡ front ++ reverse (drop left facts)
    → take (index + 1) old ≡ front ++ reverse (drop (left - 1) facts)
one_more old facts front index left x d inside some within at is same =
    let m = left - 1 in
    let back : m + 1 ≡ left = omega arith in
    let y = get_or facts m d in
    let lower : m < length facts = omega arith in
    let dropped : drop m facts ≡ y ∷ drop left facts = drop_more facts m d lower ∙ ap (λ n. y ∷ drop n facts) back in
    take_more old index x inside ∙ ap (λ z. take index old ++ z ∷ []) (get_or_from_slice_get old index x x at ∙ is)
    ∙ ap (λ l. l ++ y ∷ []) same ∙ append_assoc front (reverse (drop left facts)) (y ∷ [])
    ∙ ap (λ l. front ++ l) (sym (ap reverse dropped ∙ reverse-append (y ∷ []) (drop left facts)))

-- ---- the root's facts

-- a path that begins with those of the root has them as its oldest
pub taken_root : (root path : List Fact) → IsRooted root path → take (length root) path ≡ root
taken_root root path r = ap (take (length root)) r.whole ∙ take-append_seam root r.below

pub root_within : (root path : List Fact) → IsRooted root path → length root ≤ length path
root_within root path r = omega (arith, ap length r.whole, length-append root r.below)

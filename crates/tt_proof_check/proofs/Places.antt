-- The places that a path leaves open behind the facts of a root.
use Rattle.std.proofs.Common.{◌≡◌, ℕ, ◌≤◌, true, false, List, [], ◌∷◌, ◌++◌, length, take, drop, sym, ap, ◌∙◌, arith, append_assoc, append-nil}
use Rattle.std.proofs.lemmas.List.{take-append-le, drop-append-le, take-append-drop, drop_all, length-take}
use Rattle.tt_path.specs.declared.facts.Fact.{Fact}
use Rattle.tt_proof_read.specs.Trees.{with_fact}
use Rattle.tt_proof_check.specs.Inner.Pending.{other_side, pending_after, pending}

-- ---- the facts of the root

-- a path that begins with the root is not shorter
pub root_within : (root path : List Fact) → take (length root) path ≡ root → length root ≤ length path
root_within root path e = omega (arith, length-take (length root) path, ap length e)

-- another fact leaves them as they are
pub root_stays : (root : ℕ) (now before : List Fact) (f : Fact) → now ≡ before ++ f ∷ [] → root ≤ length before
    → take root now ≡ take root before
root_stays root now before f e h = ap (take root) e ∙ take-append-le root before (f ∷ []) h

-- ---- the places

-- if there are no other facts, nothing is open
pub pending-none : (root : ℕ) (path : List Fact) → length path ≤ root → pending root path ≡ []
pending-none root path h = ap (pending_after (take root path)) (drop_all root path h)

pending_after-push : (before path : List Fact) (f : Fact) → pending_after before (path ++ f ∷ []) ≡ other_side
    (before ++ path) f ++ pending_after before path
pending_after-push before [] f = ap (λ l. other_side l f) (sym (append-nil before)) ∙ sym (append-nil (other_side (before ++ []) f))
pending_after-push before (x ∷ xs) f =
    ap (λ l. l ++ other_side before x) (pending_after-push (before ++ x ∷ []) xs f)
    ∙ append_assoc (other_side ((before ++ x ∷ []) ++ xs) f) (pending_after (before ++ x ∷ []) xs) (other_side before x)
    ∙ ap (λ l. other_side l f ++ (pending_after (before ++ x ∷ []) xs ++ other_side before x)) (append_assoc before (x ∷ []) xs)

-- a new fact opens its other side, if it is a yes-fact
pub pending-push : (root : ℕ) (path : List Fact) (f : Fact) → root ≤ length path → pending root (path ++ f ∷ []) ≡ other_side
    path f ++ pending root path
pending-push root path f h =
    ap (λ l. pending_after l (drop root (path ++ f ∷ []))) (take-append-le root path (f ∷ []) h)
    ∙ ap (pending_after (take root path)) (drop-append-le root path (f ∷ []) h)
    ∙ pending_after-push (take root path) (drop root path) f
    ∙ ap (λ l. other_side l f ++ pending root path) (take-append-drop root path)

-- if a yes-fact is replaced by its no-fact, the new path is the next place
pub pending-turned : (root : ℕ) (now before after : List Fact) (f : Fact) → root ≤ length before → now ≡ before ++ f ∷ []
    → f.holds ≡ true → after ≡ with_fact before f.pattern false → pending root now ≡ after ∷ pending root after
pending-turned root now before after f long e h a =
    let opened : other_side before f ≡ with_fact before f.pattern false ∷ [] = rw h in
    let now_is = ap (pending root) e ∙ pending-push root before f long ∙ ap (λ l. l ++ pending root before) opened in
    let after_is = ap (pending root) a ∙ pending-push root before (record { pattern = f.pattern; holds = false }) long in
    now_is ∙ ap (λ l. l ∷ pending root before) (sym a) ∙ ap (λ l. after ∷ l) (sym after_is)

-- a no-fact opens nothing
pub pending-dropped : (root : ℕ) (now before : List Fact) (f : Fact) → root ≤ length before → now ≡ before ++ f ∷ []
    → f.holds ≡ false → pending root now ≡ pending root before
pending-dropped root now before f long e h =
    let nothing : other_side before f ≡ [] = rw h in
    ap (pending root) e ∙ pending-push root before f long ∙ ap (λ l. l ++ pending root before) nothing

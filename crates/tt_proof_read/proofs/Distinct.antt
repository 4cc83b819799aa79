-- Lists in which no two elements are alike.
use Rattle.std.proofs.Common.{◌≡◌, Bool, true, false, not, List, [], ◌∷◌, ◌++◌, length, refl, sym, ap, subst, ◌∙◌, append_assoc, arith}
use Rattle.std.specs.List.{list_any}
use Rattle.std.proofs.lemmas.Bool.{false_from_ne_true}
use Rattle.std.proofs.lemmas.List.{length_push}
use Rattle.tt_list_laws.specs.Words.{each_two, with_new, distinct}
use Rattle.tt_list_laws.proofs.Distinct.{distinct_push, distinct_stays, each_two-distinct}
use Rattle.tt_list_laws.proofs.Members.{each_two-of_append}

-- adding an element that is like none of those before it
pub each_two_push : {X : Type 0} (same : X → X → Bool) (xs : List X) (x : X) → each_two (λ a b. not (same a b)) xs ≡ true
    → list_any (λ y. same y x) xs ≡ false
    → each_two (λ a b. not (same a b)) (xs ++ x ∷ []) ≡ true
each_two_push same xs x e none =
    let pushed : with_new same xs x ≡ xs ++ x ∷ [] = rw none refl in
    let made : distinct same (xs ++ x ∷ []) ≡ xs ++ x ∷ [] = distinct_push same xs x
    ∙ ap (λ l. with_new same l x) (distinct_stays same xs e) ∙ pushed in
    subst (λ l. each_two (λ a b. not (same a b)) l ≡ true) made (each_two-distinct same (xs ++ x ∷ []))

-- if no two elements are alike, an element is like none of those before it
pub is_new : {X : Type 0} (same : X → X → Bool) (before : List X) (x : X) (xs : List X) → each_two (λ a b. not (same a b))
    (before ++ x ∷ xs) ≡ true → list_any (λ y. same y x) before ≡ false
is_new same before x xs e = false_from_ne_true (list_any (λ y. same y x) before) (λ some.
    let grouped : before ++ x ∷ xs ≡ (before ++ x ∷ []) ++ xs = sym (append_assoc before (x ∷ []) xs) in
    let front = (each_two-of_append (λ a b. not (same a b)) (before ++ x ∷ []) xs (ap (each_two (λ a b. not (same a b))) (sym grouped)
    ∙ e)).0 in
    let start = (each_two-of_append (λ a b. not (same a b)) before (x ∷ []) front).0 in
    let kept : with_new same before x ≡ before = rw some refl in
    let whole : before ++ x ∷ [] ≡ before =
    sym (distinct_stays same (before ++ x ∷ []) front) ∙ distinct_push same before x
    ∙ ap (λ l. with_new same l x) (distinct_stays same before start) ∙ kept in
    absurd (omega (arith, length_push before x, ap length whole)))

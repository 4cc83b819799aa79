-- Tests of all numbers below a bound, one number at a time.
use Rattle.std.proofs.Common.{◌≡◌, ℕ, ◌+◌, ◌<◌, Bool, true, false, ◌||◌, ◌&&◌, List, [], ◌∷◌, ◌++◌, sym, ap, ◌∙◌, arith, map-id, refl, subst, cond}
use Rattle.std.specs.List.{list_any, list_all}
use Rattle.std.proofs.lemmas.Bool.{and_from, or_from}
use Rattle.std.proofs.lemmas.List.Folds.{list_all-append, list_any-append, list_all_at}
use Rattle.std.proofs.lemmas.List.FromFn.{map-range_with_len_more, get_or-range_with_len, length-range_with_len}
use Rattle.tt_list_laws.specs.Words.{range_below}
use Rattle.tt_list_laws.proofs.Numbers.{any_below}
use Rattle.std.specs.Prelude.{All, filter}
use Rattle.std.proofs.Math.Bool.{and-true}
use Rattle.std.proofs.lemmas.List.Elements.{filter-append}
use Rattle.std.proofs.lemmas.List.{append-nil}

pub range_below_more : (i : ℕ) → range_below (i + 1) ≡ range_below i ++ i ∷ []
range_below_more i =
    let z : 0 + i ≡ i = omega arith in
    sym (map-id (range_below (i + 1))) ∙ map-range_with_len_more (λ k. k) 0 i i z ∙ ap (λ l. l ++ i ∷ []) (map-id (range_below i))

pub all_more : (p : ℕ → Bool) (i : ℕ) → list_all p (range_below i) ≡ true → p i ≡ true → list_all p (range_below (i + 1)) ≡ true
all_more p i e h =
    ap (list_all p) (range_below_more i) ∙ list_all-append p (range_below i) (i ∷ [])
    ∙ and_from (list_all p (range_below i)) (p i && true) e (and_from (p i) true h refl)

-- if one number fails, the test of all numbers fails
pub all_stops : (p : ℕ → Bool) (n i : ℕ) → i < n → false ≡ p i → false ≡ list_all p (range_below n)
all_stops p n i h e =
    sym (list_all_at p (range_below n) i 0 (rw (length-range_with_len 0 n) h)
    (rw (get_or-range_with_len 0 n i 0 h) (let z : 0 + i ≡ i = omega arith in rw z (sym e))))

pub any_stops : (p : ℕ → Bool) (n i : ℕ) → i < n → true ≡ p i → true ≡ list_any p (range_below n)
any_stops p n i h e = sym (any_below p n i h (sym e))

pub any_more : (p : ℕ → Bool) (i : ℕ) → list_any p (range_below i) ≡ false → p i ≡ false → list_any p (range_below (i + 1)) ≡ false
any_more p i e h =
    ap (list_any p) (range_below_more i) ∙ list_any-append p (range_below i) (i ∷ [])
    ∙ or_from (list_any p (range_below i)) (p i || false) e (or_from (p i) false h refl)

-- a test that each element passes
pub all_pass : {X : Type 0} (p : X → Bool) (xs : List X) → ((x : X) → p x ≡ true) → list_all p xs ≡ true
all_pass p [] h = refl
all_pass p (x ∷ xs) h = and_from (p x) (list_all p xs) (h x) (all_pass p xs h)

-- each number below n is below n
pub each_below : (n : ℕ) → All (λ r. r < n) (range_below n)
each_below n k d h =
    let l : k < n = subst (λ z. k < z) (length-range_with_len 0 n) h in
    let e = get_or-range_with_len 0 n k d l in
    omega arith

-- a test of the numbers below a bound, with another number
pub list_all-more : (p : ℕ → Bool) (i : ℕ) → list_all p (range_below (i + 1)) ≡ (list_all p (range_below i) && p i)
list_all-more p i =
    ap (list_all p) (range_below_more i) ∙ list_all-append p (range_below i) (i ∷ [])
    ∙ ap (λ b. list_all p (range_below i) && b) (and-true (p i))

-- the numbers that pass a test, with another number
pub filter_more-passing : (q : ℕ → Bool) (i : ℕ) → q i ≡ true → filter q (range_below (i + 1)) ≡ filter q (range_below i) ++ i ∷ []
filter_more-passing q i e =
    ap (filter q) (range_below_more i) ∙ filter-append q (range_below i) (i ∷ [])
    ∙ ap (λ b. filter q (range_below i) ++ cond b (i ∷ []) []) e

pub filter_more-failing : (q : ℕ → Bool) (i : ℕ) → q i ≡ false → filter q (range_below (i + 1)) ≡ filter q (range_below i)
filter_more-failing q i e =
    ap (filter q) (range_below_more i) ∙ filter-append q (range_below i) (i ∷ [])
    ∙ ap (λ b. filter q (range_below i) ++ cond b (i ∷ []) []) e ∙ append-nil (filter q (range_below i))

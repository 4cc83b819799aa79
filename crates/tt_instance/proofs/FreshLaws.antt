-- Distinct names: each is found at its place, and nowhere before. Names are distinct exactly if each is new.
use Rattle.std.proofs.Common.{◌≡◌, ◌≢◌, ℕ, ◌<◌, true, false, ltb, List, [], length, map, get_or, take, Some, refl, sym, ap, subst, ◌∙◌, arith}
use Rattle.std.specs.Prelude.{AllPairs}
use Rattle.std.specs.List.{list_any, position_or_len}
use Rattle.std.proofs.lemmas.Bool.{lt-ltb, false_from_ne_true, both_ways}
use Rattle.std.proofs.lemmas.List.{length-map, length-take-le, get_or-map, get_or-take}
use Rattle.std.proofs.lemmas.List.Elements.{All-map, All-from_get_or}
use Rattle.std.proofs.lemmas.List.Folds.{list_any_at, list_any_none}
use Rattle.std.proofs.lemmas.List.Quantifiers.{position-Some}
use Rattle.std.proofs.lemmas.List.Sums.{position_or_len_is}
use Rattle.tt_text.specs.Texts.{is_text, has_name, index_of_name}
use Rattle.tt_text.proofs.Fields.{text_is, is_text_of}
use Rattle.tt_instance.proofs.AfterLaws.{EachAfter, EachAfter-at}

module _ {X : Type 0} (id : X → List ℕ) (d : X) (xs : List X) where
  -- the names have the element's name at its place
  pub id_is : (i : ℕ) → i < length xs → get_or (map id xs) i [] ≡ id (get_or xs i d)
  id_is i l = get_or-map id xs i d [] l

  -- the element found by a name has that name
  pub found_is : (name : List ℕ) (i : ℕ) → index_of_name (map id xs) name ≡ Some i → (i < length xs) × (name ≡ id (get_or xs i d))
  found_is name i e =
      let found = position-Some (is_text name) (map id xs) i [] e in
      let below : i < length xs = omega (arith, found.0, length-map xs id) in
      (below, sym (text_is (get_or (map id xs) i []) name found.1) ∙ id_is i below)

  module _ (apart : AllPairs (λ x y. id x ≢ id y) xs) where
    -- no earlier element has the same name
    other_before : (k i : ℕ) → k < i → i < length xs → is_text (id (get_or xs i d)) (id (get_or xs k d)) ≡ false
    other_before k i below l = false_from_ne_true _ (λ same. apart k i d below l (text_is (id (get_or xs k d)) (id (get_or xs i d)) same))

    -- each element is found by its name
    pub index_is : (i : ℕ) → i < length xs → index_of_name (map id xs) (id (get_or xs i d)) ≡ Some i
    index_is i l =
        let long : length (map id xs) ≡ length xs = length-map xs id in
        let here : is_text (id (get_or xs i d)) (get_or (map id xs) i []) ≡ true = is_text_of (get_or (map id xs) i [])
        (id (get_or xs i d)) (id_is i l) in
        let before : (k : ℕ) → k < i → is_text (id (get_or xs i d)) (get_or (map id xs) k []) ≡ false =
        λ k below. ap (is_text (id (get_or xs i d))) (id_is k (omega (arith, below, l))) ∙ other_before k i below l in
        let first : position_or_len (is_text (id (get_or xs i d))) (map id xs) ≡ i = position_or_len_is (is_text (id (get_or xs i d)))
        (map id xs) i [] (omega arith) before (λ _. here) in
        let within : ltb i (length (map id xs)) ≡ true = lt-ltb _ _ (omega arith) in
        rw (first, within) refl

    -- each name is new
    pub is_new : (i : ℕ) → i < length xs → has_name (map id (take i xs)) (id (get_or xs i d)) ≡ false
    is_new i l =
        let Other : X → Type 0 = λ x. is_text (id (get_or xs i d)) (id x) ≡ false in
        let long : length (take i xs) ≡ i = length-take-le i xs (omega (arith, l)) in
        let each : (k : ℕ) → k < length (take i xs) → Other (get_or (take i xs) k d) =
        λ k within. let below : k < i = omega (arith, within, long) in subst Other (sym (get_or-take i xs k d below))
        (other_before k i below l) in
        list_any_none (is_text (id (get_or xs i d))) (map id (take i xs))
        (All-map (λ name. is_text (id (get_or xs i d)) name ≡ false) id (take i xs) (All-from_get_or Other (take i xs) d each))

-- if each name is new, no two are the same
pub apart_from_new : {X : Type 0} (id : X → List ℕ) (P : List X → X → Type 0)
    → ((before : List X) (x : X) → P before x → has_name (map id before) (id x) ≡ false)
    → (xs : List X) → EachAfter P [] xs → AllPairs (λ x y. id x ≢ id y) xs
apart_from_new id P new xs each = λ i j d below l same.
    let none : list_any (is_text (id (get_or xs j d))) (map id (take j xs)) ≡ false =
    new (take j xs) (get_or xs j d) (EachAfter-at P [] xs j d each l) in
    let within : i < length (take j xs) = omega (arith, below, length-take-le j xs (omega (arith, l))) in
    let at : get_or (map id (take j xs)) i [] ≡ id (get_or xs j d) = get_or-map id (take j xs) i d [] within
    ∙ ap id (get_or-take j xs i d below) ∙ same in
    both_ways _ none (list_any_at (is_text (id (get_or xs j d))) (map id (take j xs)) i []
    (omega (arith, within, length-map (take j xs) id)) (is_text_of (get_or (map id (take j xs)) i []) (id (get_or xs j d)) at))

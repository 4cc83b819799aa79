-- Two lists side by side.
use Rattle.std.proofs.Common.{◌≡◌, List, [], ◌∷◌, ◌++◌, length, refl, ap, arith}
use Rattle.std.specs.List.{AllZip, AllByRecursion}

-- an element of the second list has its partner in the first
pub zip_cut : {A B : Type 0} (R : A → B → Type 0) (xs : List A) (before : List B) (m : B) (after : List B)
    → AllZip R xs (before ++ m ∷ after) → (us : List A) × (x : A) × (vs : List A) × (xs ≡ us ++ x ∷ vs) × AllZip R us before × R x m
    × AllZip R vs after
zip_cut R [] [] m after h = absurd h
zip_cut R (x ∷ xs) [] m after h = ([], x, xs, refl, tt, h.0, h.1)
zip_cut R [] (b ∷ before) m after h = absurd h
zip_cut R (x ∷ xs) (b ∷ before) m after h =
    let w = zip_cut R xs before m after h.1 in
    (x ∷ w.0, w.1, w.2, ap (λ l. x ∷ l) w.3, (h.0, w.4), w.5, w.6)

-- if two pairs of lists are related element by element, their appended lists are
pub zip_append : {A B : Type 0} (R : A → B → Type 0) (xs : List A) (bs : List B) (ys : List A) (cs : List B) → AllZip R xs bs
    → AllZip R ys cs → AllZip R (xs ++ ys) (bs ++ cs)
zip_append R [] [] ys cs a h = h
zip_append R [] (b ∷ bs) ys cs a h = absurd a
zip_append R (x ∷ xs) [] ys cs a h = absurd a
zip_append R (x ∷ xs) (b ∷ bs) ys cs a h = (a.0, zip_append R xs bs ys cs a.1 h)

-- a property of each element of the first list
pub zip_each : {A B : Type 0} (R : A → B → Type 0) (P : A → Type 0) → ((x : A) (b : B) → R x b → P x) → (xs : List A) (bs : List B)
    → AllZip R xs bs → AllByRecursion P xs
zip_each R P f [] [] h = tt
zip_each R P f [] (b ∷ bs) h = absurd h
zip_each R P f (x ∷ xs) [] h = absurd h
zip_each R P f (x ∷ xs) (b ∷ bs) h = (f x b h.0, zip_each R P f xs bs h.1)

-- if lists are related element by element, a weaker relation holds too
pub zip_weaker : {A B : Type 0} (R S : A → B → Type 0) → ((x : A) (b : B) → R x b → S x b) → (xs : List A) (bs : List B)
    → AllZip R xs bs → AllZip S xs bs
zip_weaker R S f [] [] h = tt
zip_weaker R S f [] (b ∷ bs) h = absurd h
zip_weaker R S f (x ∷ xs) [] h = absurd h
zip_weaker R S f (x ∷ xs) (b ∷ bs) h = (f x b h.0, zip_weaker R S f xs bs h.1)

-- related lists have the same length
pub zip_length : {A B : Type 0} (R : A → B → Type 0) (xs : List A) (bs : List B) → AllZip R xs bs → length xs ≡ length bs
zip_length R [] [] h = refl
zip_length R [] (b ∷ bs) h = absurd h
zip_length R (x ∷ xs) [] h = absurd h
zip_length R (x ∷ xs) (b ∷ bs) h = omega (arith, zip_length R xs bs h.1)

-- a property of each element of the second list
pub zip_other : {A B : Type 0} (R : A → B → Type 0) (Q : B → Type 0) → ((x : A) (b : B) → R x b → Q b) → (xs : List A) (bs : List B)
    → AllZip R xs bs → AllByRecursion Q bs
zip_other R Q f [] [] h = tt
zip_other R Q f [] (b ∷ bs) h = absurd h
zip_other R Q f (x ∷ xs) [] h = absurd h
zip_other R Q f (x ∷ xs) (b ∷ bs) h = (f x b h.0, zip_other R Q f xs bs h.1)

-- if a property holds of each element of the first list, the relation holds together with it
pub zip_and : {A B : Type 0} (R : A → B → Type 0) (P : A → Type 0) (xs : List A) (bs : List B) → AllByRecursion P xs → AllZip R xs bs
    → AllZip (λ x b. R x b × P x) xs bs
zip_and R P [] [] a h = tt
zip_and R P [] (b ∷ bs) a h = absurd h
zip_and R P (x ∷ xs) [] a h = absurd h
zip_and R P (x ∷ xs) (b ∷ bs) a h = ((h.0, a.0), zip_and R P xs bs a.1 h.1)

-- Places: the digits of a place can be read off it, and digits below their sizes have a place within the table.
use Rattle.std.proofs.Common.{◌≡◌, ℕ, zero, suc, ◌+◌, ◌*◌, ◌/◌, ◌%◌, ◌<◌, ◌≤◌, List, [], ◌∷◌, ◌++◌, map, length, length-append, refl, ap, ◌∙◌, arith, mul-le-mul_right}
use Rattle.std.specs.Prelude.{slice_index, sum_by}
use Rattle.std.specs.List.{AllZip}
use Rattle.std.proofs.lemmas.Nat.{div-mul-add, mod-mul-add}
use Rattle.std.proofs.lemmas.List.{length-map}
use Rattle.tt_list_laws.specs.Words.{range_below}
use Rattle.tt_groups.specs.Places.{weights_from, places, place_of}
use Rattle.tt_groups.proofs.Lists.{sum_head}

-- each digit is below its size
abbrev pub AreBelow : List ℕ → List ℕ → Type 0
AreBelow ns ds = AllZip (λ n d. d < n) ns ds

-- a place is a multiple of the first digit's weight
whole : (m : ℕ) (ns ds : List ℕ) → (q : ℕ) × (place_of (weights_from m ns) ds ≡ q * m)
whole m [] ds = (0, omega arith)
whole m (n ∷ ns) [] = (0, omega arith)
whole m (n ∷ ns) (d ∷ ds) = let f = whole (m * n) ns ds in (d + f.0 * n, omega (arith, f.1))

-- the part below the next digit is less than that digit's weight
carried : (m n d r : ℕ) → r < m → d < n → r + d * m < m * n
carried m n d r h k = let le : d + 1 ≤ n = omega arith in omega (arith, mul-le-mul_right m le)

-- the digit at j
pub digit_of : (m : ℕ) (ns ds : List ℕ) → AreBelow ns ds → (r : ℕ) → r < m → (j : ℕ) → j < length ns
    → (r + place_of (weights_from m ns) ds) / slice_index (weights_from m ns) j % slice_index ns j ≡ slice_index ds j
digit_of m [] ds below r h j k = absurd (omega arith)
digit_of m (n ∷ ns) [] below r h j k = absurd below
digit_of m (n ∷ ns) (d ∷ ds) below r h zero k =
    let f = whole (m * n) ns ds in
    let e : r + (d * m + place_of (weights_from (m * n) ns) ds) ≡ (f.0 * n + d) * m + r = omega (arith, f.1) in
    ap (λ z. z / m % n) e ∙ ap (λ z. z % n) (div-mul-add (f.0 * n + d) m r h) ∙ mod-mul-add f.0 n d below.0
digit_of m (n ∷ ns) (d ∷ ds) below r h (suc j) k =
    let e : r + (d * m + place_of (weights_from (m * n) ns) ds) ≡ (r + d * m) + place_of (weights_from (m * n) ns) ds = omega arith in
    ap (λ z. z / slice_index (weights_from (m * n) ns) j % slice_index ns j) e
    ∙ digit_of (m * n) ns ds below.1 (r + d * m) (carried m n d r h below.0) j (omega (arith, k))

-- the place is within the table
pub place_below : (m : ℕ) (ns ds : List ℕ) → AreBelow ns ds → (r : ℕ) → r < m → r + place_of (weights_from m ns) ds < m * places ns
place_below m [] ds below r h = omega arith
place_below m (n ∷ ns) [] below r h = absurd below
place_below m (n ∷ ns) (d ∷ ds) below r h = omega (arith, place_below (m * n) ns ds below.1 (r + d * m) (carried m n d r h below.0))

-- a place as a sum over the indices
pub place-by_index : (ws ds : List ℕ) → length ds ≡ length ws → sum_by (λ j. slice_index ds j * slice_index ws j)
    (range_below (length ws)) ≡ place_of ws ds
place-by_index [] ds e = refl
place-by_index (w ∷ ws) [] e = absurd (omega arith)
place-by_index (w ∷ ws) (d ∷ ds) e =
    let l : length ds ≡ length ws = omega arith in
    omega (arith, sum_head (λ j. slice_index (d ∷ ds) j * slice_index (w ∷ ws) j) (length ws), place-by_index ws ds l)

-- -- two concatenated lists of digits

pub at_left : (f h : ℕ → ℕ) (cs ws : List ℕ) (j : ℕ) → j < length cs → slice_index (map f cs ++ map h ws) j ≡ f (slice_index cs j)
at_left f h [] ws j l = absurd (omega arith)
at_left f h (c ∷ cs) ws zero l = refl
at_left f h (c ∷ cs) ws (suc j) l = at_left f h cs ws j (omega (arith, l))

pub at_map : (h : ℕ → ℕ) (ws : List ℕ) (i : ℕ) → i < length ws → slice_index (map h ws) i ≡ h (slice_index ws i)
at_map h [] i l = absurd (omega arith)
at_map h (w ∷ ws) zero l = refl
at_map h (w ∷ ws) (suc i) l = at_map h ws i (omega (arith, l))

pub at_right : (f h : ℕ → ℕ) (cs ws : List ℕ) (i : ℕ) → i < length ws → slice_index (map f cs ++ map h ws) (length cs + i) ≡ h
    (slice_index ws i)
at_right f h [] ws i l = let e : 0 + i ≡ i = omega arith in ap (slice_index (map h ws)) e ∙ at_map h ws i l
at_right f h (c ∷ cs) ws i l =
    let e : suc (length cs) + i ≡ suc (length cs + i) = omega arith in
    ap (slice_index (f c ∷ (map f cs ++ map h ws))) e ∙ at_right f h cs ws i l

pub length-two : (f h : ℕ → ℕ) (cs ws : List ℕ) → length (map f cs ++ map h ws) ≡ length cs + length ws
length-two f h cs ws = omega (arith, length-append (map f cs) (map h ws), length-map cs f, length-map ws h)

-- each digit has a weight
pub length-weights_from : (m : ℕ) (ns : List ℕ) → length (weights_from m ns) ≡ length ns
length-weights_from m [] = refl
length-weights_from m (n ∷ ns) = omega (arith, length-weights_from (m * n) ns)

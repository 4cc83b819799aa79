-- Texts that grow piece by piece.
use Rattle.std.proofs.Common.{◌≡◌, ℕ, zero, suc, ◌+◌, ◌-◌, ◌<◌, ◌≤◌, List, [], ◌∷◌, ◌++◌, take, drop, length, get_or, refl, sym, ap, ◌∙◌, append_assoc, arith, length-append, length-take}
use Rattle.std.specs.Prelude.{flat_map}
use Rattle.std.proofs.lemmas.List.{append-nil, take_more, take_all, drop_all, take-append-drop}
use Rattle.std.proofs.lemmas.Grind.{flat_map-append, take_at_read}
use Rattle.tt_list_laws.specs.Words.{range_below}
use Rattle.tt_list_laws.proofs.Below.{range_below_more}
use Rattle.tt_page_text.specs.Puts.{put_text, take_in}
use Rattle.tt_page_text.specs.Windowed.{PageState}

-- ---- two texts in turn

take_across : {X : Type 0} (n : ℕ) (x y : List X) → take n (x ++ y) ≡ take n x ++ take (n - length x) y
take_across zero x y = let none : 0 ≡ 0 - length x = omega arith in ap (λ k. take k y) none
take_across (suc n) [] y = let all : suc n ≡ suc n - 0 = omega arith in ap (λ k. take k y) all
take_across (suc n) (c ∷ x) y =
    let same : n - length x ≡ suc n - suc (length x) = omega arith in
    ap (λ z. c ∷ z) (take_across n x y ∙ ap (λ k. take n x ++ take k y) same)

drop_across : {X : Type 0} (n : ℕ) (x y : List X) → drop n (x ++ y) ≡ drop n x ++ drop (n - length x) y
drop_across zero x y = let none : 0 ≡ 0 - length x = omega arith in ap (λ k. x ++ drop k y) none
drop_across (suc n) [] y = let all : suc n ≡ suc n - 0 = omega arith in ap (λ k. drop k y) all
drop_across (suc n) (c ∷ x) y =
    let same : n - length x ≡ suc n - suc (length x) = omega arith in
    drop_across n x y ∙ ap (λ k. drop n x ++ drop k y) same

-- two parts that are taken in turn, each as far as there is room
taken_in_turn : (size : ℕ) (bytes a r : List ℕ) → (bytes ++ take (size - length bytes) a) ++ take
    (size - length (bytes ++ take (size - length bytes) a)) r ≡ bytes ++ take (size - length bytes) (a ++ r)
taken_in_turn size bytes a r =
    let n = size - length bytes in
    let rest : size - length (bytes ++ take n a) ≡ n - length a = omega (arith, length-append bytes (take n a), length-take n a) in
    append_assoc bytes (take n a) (take (size - length (bytes ++ take n a)) r)
    ∙ ap (λ k. bytes ++ (take n a ++ take k r)) rest
    ∙ ap (λ z. bytes ++ z) (sym (take_across n a r))

taken_nothing : (s : PageState) → take_in s [] ≡ s
taken_nothing s =
    let before : s.before - 0 ≡ s.before = omega arith in
    let left : s.left - 0 ≡ s.left = omega arith in
    let none : take (s.size - length s.bytes) (drop s.before []) ≡ [] = ap (take (s.size - length s.bytes))
    (drop_all {X = ℕ} s.before [] (omega arith)) ∙ take_all {A = ℕ} (s.size - length s.bytes) [] (omega arith) in
    let bytes : s.bytes ++ take (s.size - length s.bytes) (drop s.before []) ≡ s.bytes = ap (λ z. s.bytes ++ z) none ∙ append-nil s.bytes in
    λ i. record { before = before i; size = s.size; left = left i; bytes = bytes i }

taken_twice : (s : PageState) (x y : List ℕ) → take_in (take_in s x) y ≡ take_in s (x ++ y)
taken_twice s x y =
    let before : (s.before - length x) - length y ≡ s.before - length (x ++ y) = omega (arith, length-append x y) in
    let left : (s.left - length x) - length y ≡ s.left - length (x ++ y) = omega (arith, length-append x y) in
    let n = s.size - length s.bytes in
    let bytes = taken_in_turn s.size s.bytes (drop s.before x) (drop (s.before - length x) y)
    ∙ ap (λ z. s.bytes ++ take n z) (sym (drop_across s.before x y)) in
    λ i. record { before = before i; size = s.size; left = left i; bytes = bytes i }

-- ---- texts that are put

-- nothing is put
pub put_nothing : (s : PageState) → put_text s [] ≡ s
unfolding put_text
put_nothing s = ap (take_in s) (take_all {A = ℕ} s.left [] (omega arith)) ∙ taken_nothing s

-- two texts put in turn are both together
pub put_twice : (s : PageState) (x y : List ℕ) → put_text (put_text s x) y ≡ put_text s (x ++ y)
unfolding put_text
put_twice s x y =
    let rest : s.left - length (take s.left x) ≡ s.left - length x = omega (arith, length-take s.left x) in
    taken_twice s (take s.left x) (take (s.left - length (take s.left x)) y)
    ∙ ap (λ k. take_in s (take s.left x ++ take k y)) rest
    ∙ ap (take_in s) (sym (take_across s.left x y))

-- if no byte is left, nothing changes
pub put_full : (s : PageState) (x : List ℕ) → s.left ≡ 0 → put_text s x ≡ s
unfolding put_text
put_full s x full = ap (λ k. take_in s (take k x)) full ∙ taken_nothing s

-- a text put after another one
pub then_put : (first s t : PageState) (x y : List ℕ) → s ≡ put_text first x → t ≡ put_text s y → t ≡ put_text first (x ++ y)
then_put first s t x y h k = k ∙ ap (λ z. put_text z y) h ∙ put_twice first x y

-- ---- the texts of elements

one_more : {X : Type 0} (f : X → List ℕ) (xs : List X) (i : ℕ) (d : X) → i < length xs → flat_map f (take (i + 1) xs) ≡ flat_map f
    (take i xs) ++ f (get_or xs i d)
one_more f xs i d h =
    ap (flat_map f) (take_more xs i d h) ∙ flat_map-append f (take i xs) (get_or xs i d ∷ []) ∙ ap (λ z. flat_map f (take i xs) ++ z)
    (append-nil (f (get_or xs i d)))

-- a text is extended by that of another element
pub taken_further : {X : Type 0} (f : X → List ℕ) (xs : List X) (i : ℕ) (d : X) (first old new : PageState) → i < length xs
    → old ≡ put_text first (flat_map f (take i xs)) → new ≡ put_text old (f (get_or xs i d))
    → new ≡ put_text first (flat_map f (take (i + 1) xs))
taken_further f xs i d first old new h before more =
    then_put first old new (flat_map f (take i xs)) (f (get_or xs i d)) before more ∙ ap (put_text first) (sym (one_more f xs i d h))

texts_more : (f : ℕ → List ℕ) (i : ℕ) → flat_map f (range_below (i + 1)) ≡ flat_map f (range_below i) ++ f i
texts_more f i =
    ap (flat_map f) (range_below_more i) ∙ flat_map-append f (range_below i) (i ∷ []) ∙ ap (λ z. flat_map f (range_below i) ++ z)
    (append-nil (f i))

-- a text is extended by that of another number
pub text_further : (f : ℕ → List ℕ) (i : ℕ) (first old new : PageState) → old ≡ put_text first (flat_map f (range_below i))
    → new ≡ put_text old (f i) → new ≡ put_text first (flat_map f (range_below (i + 1)))
text_further f i first old new before more =
    then_put first old new (flat_map f (range_below i)) (f i) before more ∙ ap (put_text first) (sym (texts_more f i))

-- if no byte is left, the texts of the elements that follow change nothing
pub taken_full : {X : Type 0} (f : X → List ℕ) (xs : List X) (i : ℕ) (first s : PageState) → s ≡ put_text first (flat_map f (take i xs))
    → s.left ≡ 0 → s ≡ put_text first (flat_map f xs)
taken_full f xs i first s before full =
    sym (put_full s (flat_map f (drop i xs)) full)
    ∙ then_put first s (put_text s (flat_map f (drop i xs))) (flat_map f (take i xs)) (flat_map f (drop i xs)) before refl
    ∙ ap (put_text first) (sym (flat_map-append f (take i xs) (drop i xs)) ∙ ap (flat_map f) (take-append-drop i xs))

texts_full : (f : ℕ → List ℕ) (i k : ℕ) (first s : PageState) → s ≡ put_text first (flat_map f (range_below i)) → s.left ≡ 0
    → s ≡ put_text first (flat_map f (range_below (i + k)))
texts_full f i zero first s before full = let same : i ≡ i + 0 = omega arith in before
    ∙ ap (λ k. put_text first (flat_map f (range_below k))) same
texts_full f i (suc k) first s before full =
    let next : (i + k) + 1 ≡ i + suc k = omega arith in
    text_further f (i + k) first s s (texts_full f i k first s before full) (sym (put_full s (f (i + k)) full))
    ∙ ap (λ k. put_text first (flat_map f (range_below k))) next

-- if no byte is left, the texts of the numbers that follow change nothing
pub text_full : (f : ℕ → List ℕ) (i n : ℕ) (first s : PageState) → i ≤ n → s ≡ put_text first (flat_map f (range_below i)) → s.left ≡ 0
    → s ≡ put_text first (flat_map f (range_below n))
text_full f i n first s within before full =
    let whole : i + (n - i) ≡ n = omega arith in
    texts_full f i (n - i) first s before full ∙ ap (λ k. put_text first (flat_map f (range_below k))) whole

-- what an equation of texts that were put in turn follows from
pub ruleset puts = (put_twice, put_nothing, append_assoc, append-nil, take_all, take_at_read, flat_map-append, range_below_more)

-- the text of the first of the elements that are left is put before those of the others
pub text_ahead : {X : Type 0} (f : X → List ℕ) (x : X) (xs left : List X) (first old new : PageState) → left ≡ x ∷ xs
    → new ≡ put_text old (f x) → put_text old (flat_map f left) ≡ first → put_text new (flat_map f xs) ≡ first
text_ahead f x xs left first old new is more before =
    ap (λ z. put_text z (flat_map f xs)) more ∙ put_twice old (f x) (flat_map f xs) ∙ ap (λ es. put_text old (flat_map f es)) (sym is)
    ∙ before

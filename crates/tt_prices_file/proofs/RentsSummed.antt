-- The numbers of a table of rents, added up room by room.
use Rattle.std.proofs.Common.{◌≡◌, ℕ, ◌+◌, ◌*◌, ◌<◌, zero, suc, List, [], ◌∷◌, length, get_or, sum_by, refl, sym, ap, subst, ◌∙◌, arith}
use Rattle.std.proofs.lemmas.List.Sums.{sum_by-append}
use Rattle.tt_list_laws.specs.Words.{range_below}
use Rattle.tt_instance.specs.Problem.{Problem}
use Rattle.tt_instance.specs.Cells.{all_rooms, all_slots, slot}
use Rattle.tt_instance.proofs.Places.{slots_summed}
use Rattle.tt_prices_text.specs.Reading.{RoomRents}
use Rattle.tt_prices_file.specs.Files.{rent_at}
use Rattle.tt_prices_file.specs.Inner.Rents.{IsRentTable}
use Rattle.tt_prices_file.specs.declared.rents.RentTable.{RentTable}
use Rattle.tt_prices_file.proofs.Termed.{range_more}

-- ---- sums over the first numbers

sum_one : (f : ℕ → ℕ) (n : ℕ) → sum_by f (n ∷ []) ≡ f n
sum_one f n = omega arith

sum_more : (f : ℕ → ℕ) (n : ℕ) → sum_by f (range_below (n + 1)) ≡ sum_by f (range_below n) + f n
sum_more f n = ap (sum_by f) (range_more n) ∙ sum_by-append f (range_below n) (n ∷ []) ∙ ap (λ k. sum_by f (range_below n) + k)
    (sum_one f n)

same_below : (f g : ℕ → ℕ) (n : ℕ) → ((k : ℕ) → k < n → f k ≡ g k) → sum_by f (range_below n) ≡ sum_by g (range_below n)
same_below f g zero same = refl
same_below f g (suc n) same =
    let on : suc n ≡ n + 1 = omega arith in
    subst (λ m. sum_by f (range_below m) ≡ sum_by g (range_below m)) (sym on)
    (sum_more f n ∙ ap (λ k. k + f n) (same_below f g n (λ k l. same k (omega (arith, l))))
    ∙ ap (λ k. sum_by g (range_below n) + k) (same n (omega arith)) ∙ sym (sum_more g n))

-- the first n numbers, and m further ones
sum_split : (f : ℕ → ℕ) (n m : ℕ) → sum_by f (range_below (n + m)) ≡ sum_by f (range_below n) + sum_by (λ j. f (n + j)) (range_below m)
sum_split f n zero = let none : n + zero ≡ n = omega arith in ap (λ k. sum_by f (range_below k)) none ∙
    (let z : sum_by f (range_below n) ≡ sum_by f (range_below n) + 0 = omega arith in z)
sum_split f n (suc m) =
    let on : suc m ≡ m + 1 = omega arith in
    let far : n + suc m ≡ (n + m) + 1 = omega arith in
    ap (λ k. sum_by f (range_below k)) far ∙ sum_more f (n + m) ∙ ap (λ k. k + f (n + m)) (sum_split f n m)
    ∙ (let turn : (sum_by f (range_below n) + sum_by (λ j. f (n + j)) (range_below m)) + f (n + m)
    ≡ sum_by f (range_below n) + (sum_by (λ j. f (n + j)) (range_below m) + f (n + m)) = omega arith in turn)
    ∙ ap (λ k. sum_by f (range_below n) + k) (sym (sum_more (λ j. f (n + j)) m) ∙ ap (λ k. sum_by (λ j. f (n + j)) (range_below k))
    (sym on))

-- rows of so many numbers each
sum_rows : (f : ℕ → ℕ) (width rows : ℕ)
    → sum_by f (range_below (rows * width)) ≡ sum_by (λ r. sum_by (λ j. f (r * width + j)) (range_below width)) (range_below rows)
sum_rows f width zero = let none : zero * width ≡ 0 = omega arith in ap (λ k. sum_by f (range_below k)) none
sum_rows f width (suc rows) =
    let on : suc rows ≡ rows + 1 = omega arith in
    let far : suc rows * width ≡ rows * width + width = omega arith in
    ap (λ k. sum_by f (range_below k)) far ∙ sum_split f (rows * width) width
    ∙ ap (λ k. k + sum_by (λ j. f (rows * width + j)) (range_below width)) (sum_rows f width rows)
    ∙ sym (ap (λ k. sum_by (λ r. sum_by (λ j. f (r * width + j)) (range_below width)) (range_below k)) on
    ∙ sum_more (λ r. sum_by (λ j. f (r * width + j)) (range_below width)) rows)

-- a list's numbers, by their places
by_places : (xs : List ℕ) → sum_by (λ n. n) xs ≡ sum_by (λ k. get_or xs k 0) (range_below (length xs))
by_places [] = refl
by_places (x ∷ xs) =
    let on : length (x ∷ xs) ≡ 1 + length xs = omega arith in
    sum_by-append (λ n. n) (x ∷ []) xs ∙ ap (λ n. n + sum_by (λ k. k) xs) (sum_one (λ n. n) x) ∙ ap (λ n. x + n) (by_places xs)
    ∙ sym (ap (λ k. sum_by (λ j. get_or (x ∷ xs) j 0) (range_below k)) on ∙ sum_split (λ j. get_or (x ∷ xs) j 0) 1 (length xs) ∙ ends)
  where
    shift : (k : ℕ) → get_or (x ∷ xs) (1 + k) 0 ≡ get_or xs k 0
    shift k = let on : 1 + k ≡ suc k = omega arith in ap (λ n. get_or (x ∷ xs) n 0) on

    ends : sum_by (λ j. get_or (x ∷ xs) j 0) (range_below 1) + sum_by (λ j. get_or (x ∷ xs) (1 + j) 0) (range_below (length xs))
        ≡ x + sum_by (λ k. get_or xs k 0) (range_below (length xs))
    ends =
        ap (λ n. n + sum_by (λ j. get_or (x ∷ xs) (1 + j) 0) (range_below (length xs))) (sum_one (λ j. get_or (x ∷ xs) j 0) 0)
        ∙ ap (λ n. x + n) (same_below (λ j. get_or (x ∷ xs) (1 + j) 0) (λ k. get_or xs k 0) (length xs) (λ k l. shift k))

-- ---- the rents of all rooms

pub rents_summed : (p : Problem) (xs : List RoomRents) (t : RentTable) → IsRentTable p xs t
    → sum_by (λ n. n) t.prices.rents.items ≡ sum_by (λ r. sum_by (rent_at p.periods xs r) (all_slots p)) (all_rooms p)
rents_summed p xs t table =
    by_places items ∙ ap (λ n. sum_by at (range_below n)) (table.whole ∙ ap (λ n. length p.rooms * n) table.slots)
    ∙ sum_rows at (p.days * p.periods) (length p.rooms)
    ∙ same_below (λ r. sum_by (λ j. at (r * (p.days * p.periods) + j)) (range_below (p.days * p.periods)))
    (λ r. sum_by (rent_at p.periods xs r) (all_slots p)) (length p.rooms) row
  where
    items : List ℕ
    items = t.prices.rents.items

    at : ℕ → ℕ
    at k = get_or items k 0

    row : (r : ℕ) → r < length p.rooms
        → sum_by (λ j. at (r * (p.days * p.periods) + j)) (range_below (p.days * p.periods)) ≡ sum_by (rent_at p.periods xs r) (all_slots p)
    row r inside =
        sum_rows (λ j. at (r * (p.days * p.periods) + j)) p.periods p.days
        ∙ same_below (λ d. sum_by (λ s. at (r * (p.days * p.periods) + (d * p.periods + s))) (range_below p.periods))
        (λ d. sum_by (λ s. rent_at p.periods xs r (slot d s)) (range_below p.periods)) p.days
        (λ d dl. same_below (λ s. at (r * (p.days * p.periods) + (d * p.periods + s))) (λ s. rent_at p.periods xs r (slot d s)) p.periods
        (λ s sl. ap (λ n. at (r * n + (d * p.periods + s))) (sym table.slots) ∙ table.rents r d s inside dl sl))
        ∙ sym (slots_summed p (rent_at p.periods xs r))

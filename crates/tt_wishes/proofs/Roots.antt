-- The facts that wishes put at a root.
use Rattle.std.proofs.Common.{◌≡◌, ◌≤◌, ◌<◌, ℕ, not, List, [], ◌∷◌, ◌++◌, length, get_or, sym, ap, ◌∙◌, arith}
use Rattle.std.specs.Prelude.{◌≢◌, All, IfSome, Option, Some, None, codes, take, filter, flat_map}
use Rattle.std.proofs.lemmas.List.{take_all, take-append-le, length-take, length-take-le}
use Rattle.std.proofs.lemmas.List.Elements.{All-nil, All-cons, All-append, All-take, All-map, All-filter, All-head, All-tail}
use Rattle.tt_list_laws.specs.Words.{has_number}
use Rattle.tt_list_laws.proofs.Below.{each_below}
use Rattle.tt_instance.specs.Problem.{Problem}
use Rattle.tt_instance.specs.Cells.{all_courses, all_rooms}
use Rattle.tt_instance.specs.declared.cell.Cell.{Cell}
use Rattle.tt_path.specs.Facts.{Holds, Fits, IsPattern}
use Rattle.tt_path.specs.declared.facts.Fact.{Fact}
use Rattle.tt_wishes.specs.Facts.{pattern_at, pattern_in, some_entry, no_entry, facts_of, facts_of_all, root_of}
use Rattle.tt_wishes.specs.Spelling.{room_name, IsPlace, IsWish, AreWishes}
use Rattle.tt_wishes.specs.Wishes.{broken_wishes}
use Rattle.tt_wishes.specs.declared.format.TheConstants.{MAX_ROOT}
use Rattle.tt_wishes.specs.declared.wish.Place.{Place}
use Rattle.tt_wishes.specs.declared.wish.Wish.{Wish}
use Rattle.tt_wishes.specs.declared.wish.Wish.TheVariants.{Hold, Rooms, Closed}
use Rattle.tt_wishes.proofs.KeptLaws.{all_fit}

-- ---- lists that begin alike

-- a list of fewer elements that begins alike is the whole list
pub same_of_few : {X : Type 0} (n : ℕ) (xs ys : List X) → length xs < n → take n xs ≡ take n ys → xs ≡ ys
same_of_few n xs ys few e =
    let lengths : length (take n ys) ≡ length xs = ap length (sym e) ∙ ap length (take_all n xs (omega (arith, few))) in
    let short : length ys ≤ n = omega (arith, lengths, few, length-take n ys) in
    sym (take_all n xs (omega (arith, few))) ∙ e ∙ take_all n ys short

-- what is added to two lists that begin alike, of which one has few elements, leaves them so
pub alike_added : {X : Type 0} (n : ℕ) (xs ys zs more : List X) → length xs < n → more ≡ xs ++ zs → take n xs ≡ take n ys
    → take n more ≡ take n (ys ++ zs)
alike_added n xs ys zs more few is e = ap (take n) is ∙ ap (λ l. take n (l ++ zs)) (same_of_few n xs ys few e)

-- a list of enough elements begins like another one to which something is added
pub alike_full : {X : Type 0} (n : ℕ) (xs ys zs : List X) → n ≤ length xs → take n xs ≡ take n ys → take n xs ≡ take n (ys ++ zs)
alike_full n xs ys zs many e =
    let lengths : length (take n ys) ≡ n = ap length (sym e) ∙ length-take-le n xs many in
    let long : n ≤ length ys = omega (arith, lengths, length-take n ys) in
    e ∙ sym (take-append-le n ys zs long)

-- ---- the facts of the root

-- a timetable that keeps the wishes fits the root
pub root_fits : (p : Problem) (t : List Cell) (ws : List Wish) → broken_wishes t ws ≡ 0 → Fits p t (root_of p ws)
root_fits p t ws none = All-take (Holds p t) MAX_ROOT (facts_of_all p ws) (all_fit p t ws none)

module _ (p : Problem) where
  -- the numbers of a fact are in the range of the instance
  abbrev IsFactOf : Fact → Type 0
  IsFactOf f = IsPattern p f.pattern

  room_inside : (r : Option ℕ) → IfSome r (λ n. (n < length p.rooms) × (room_name p n ≢ codes "*")) → IfSome r (λ n. n < length p.rooms)
  room_inside None h = tt
  room_inside (Some n) h = h.0

  pattern_of_place : (g : Place) (c : ℕ) → c < length p.courses → IsPlace p g → IsPattern p (pattern_at g c)
  pattern_of_place g c is place = record { who = is; room = room_inside g.room place.room; day = place.day; period = place.period }

  pattern_of_room : (c r : ℕ) → c < length p.courses → r < length p.rooms → IsPattern p (pattern_in c r)
  pattern_of_room c r is room = record { who = is; room = room; day = tt; period = tt }

  -- the facts of a wish
  facts_inside : (w : Wish) → IsWish p w → All IsFactOf (facts_of p w)
  facts_inside (Hold c g) is = All-cons IsFactOf (some_entry (pattern_at g c)) [] (pattern_of_place g c is.0 is.1) (All-nil IsFactOf)
  facts_inside (Rooms c rooms) is =
      All-map IsFactOf (λ r. no_entry (pattern_in c r)) (filter (λ r. not (has_number rooms r)) (all_rooms p))
      (All-filter (λ r. not (has_number rooms r)) (λ r. IsFactOf (no_entry (pattern_in c r))) (all_rooms p)
      (λ k d l. pattern_of_room c (get_or (all_rooms p) k d) is.0 (each_below (length p.rooms) k d l)))
  facts_inside (Closed g) is =
      All-map IsFactOf (λ c. no_entry (pattern_at g c)) (all_courses p)
      (λ k d l. pattern_of_place g (get_or (all_courses p) k d) (each_below (length p.courses) k d l) is)

  all_inside : (ws : List Wish) → AreWishes p ws → All IsFactOf (facts_of_all p ws)
  all_inside [] are = All-nil IsFactOf
  all_inside (w ∷ ws) are =
      All-append IsFactOf (facts_of p w) (flat_map (facts_of p) ws) (facts_inside w (All-head (IsWish p) w ws are))
      (all_inside ws (All-tail (IsWish p) w ws are))

  pub root_inside : (ws : List Wish) → AreWishes p ws → All (λ f. IsPattern p f.pattern) (root_of p ws)
  root_inside ws are = All-take IsFactOf MAX_ROOT (facts_of_all p ws) (all_inside ws are)

-- One more part of a file.
use Rattle.std.proofs.Common.{◌≡◌, ℕ, ◌+◌, ◌*◌, Bool, true, false, not, cond, ◌&&◌, ◌||◌, List, [], ◌∷◌, ◌++◌, map, append-nil, refl, sym, ap, ◌∙◌}
use Rattle.std.specs.Prelude.{◌==◌, flat_map, slice_index}
use Rattle.std.specs.List.{list_any, list_all}
use Rattle.std.proofs.lemmas.Bool.{and_from, eqb-true, eq-eqb, both_ways}
use Rattle.std.proofs.lemmas.Grind.{flat_map-append}
use Rattle.std.proofs.lemmas.List.{map-append}
use Rattle.std.proofs.lemmas.List.Folds.{flat_map-map}
use Rattle.tt_list_laws.specs.Words.{has_number, are_distinct}
use Rattle.tt_list_laws.proofs.Twos.{each_two-append}
use Rattle.tt_instance.specs.Problem.{Problem}
use Rattle.tt_instance.specs.declared.cell.Slot.{Slot}
use Rattle.tt_groups.specs.Prices.{PricedGroup}
use Rattle.tt_prices_text.specs.Reading.{Group, RoomRents, Part, GroupPart, RentPart}
use Rattle.tt_prices_file.specs.Files.{priced, groups_in, groups_of, curricula_in, courses_in, rents_in, rented, rent_at}

-- ---- the groups and the rents of two lists of parts

pub groups_in-append : (xs ys : List Part) → groups_in (xs ++ ys) ≡ groups_in xs ++ groups_in ys
groups_in-append [] ys = refl
groups_in-append (GroupPart g ∷ xs) ys = ap (λ (l : List Group). g ∷ l) (groups_in-append xs ys)
groups_in-append (RentPart r ∷ xs) ys = groups_in-append xs ys

pub rents_in-append : (xs ys : List Part) → rents_in (xs ++ ys) ≡ rents_in xs ++ rents_in ys
rents_in-append [] ys = refl
rents_in-append (GroupPart g ∷ xs) ys = rents_in-append xs ys
rents_in-append (RentPart r ∷ xs) ys = ap (λ (l : List RoomRents). r ∷ l) (rents_in-append xs ys)

-- another group
module _ (xs : List Part) (g : Group) where
  pub groups_in-group : groups_in (xs ++ GroupPart g ∷ []) ≡ groups_in xs ++ g ∷ []
  groups_in-group = groups_in-append xs (GroupPart g ∷ [])

  pub groups_of-group : (p : Problem) → groups_of p (xs ++ GroupPart g ∷ []) ≡ groups_of p xs ++ priced p g ∷ []
  groups_of-group p = ap (map (priced p)) groups_in-group ∙ map-append (priced p) (groups_in xs) (g ∷ [])

  pub curricula_in-group : curricula_in (xs ++ GroupPart g ∷ []) ≡ curricula_in xs ++ g.curricula
  curricula_in-group =
      ap (flat_map (λ (x : Group). x.curricula)) groups_in-group ∙ flat_map-append (λ (x : Group). x.curricula) (groups_in xs) (g ∷ [])
      ∙ ap (λ (l : List ℕ). curricula_in xs ++ l) (append-nil g.curricula)

  pub courses_in-group : courses_in (xs ++ GroupPart g ∷ []) ≡ courses_in xs ++ g.courses
  courses_in-group =
      ap (flat_map (λ (x : Group). x.courses)) groups_in-group ∙ flat_map-append (λ (x : Group). x.courses) (groups_in xs) (g ∷ [])
      ∙ ap (λ (l : List ℕ). courses_in xs ++ l) (append-nil g.courses)

  pub rents_in-group : rents_in (xs ++ GroupPart g ∷ []) ≡ rents_in xs
  rents_in-group = rents_in-append xs (GroupPart g ∷ []) ∙ append-nil (rents_in xs)

-- further rents
module _ (xs : List Part) (r : RoomRents) where
  pub groups_in-rent : groups_in (xs ++ RentPart r ∷ []) ≡ groups_in xs
  groups_in-rent = groups_in-append xs (RentPart r ∷ []) ∙ append-nil (groups_in xs)

  pub rents_in-rent : rents_in (xs ++ RentPart r ∷ []) ≡ rents_in xs ++ r ∷ []
  rents_in-rent = rents_in-append xs (RentPart r ∷ [])

  pub rented-rent : rented (xs ++ RentPart r ∷ []) ≡ rented xs ++ r.room ∷ []
  rented-rent = ap (map (λ (x : RoomRents). x.room)) rents_in-rent ∙ map-append (λ (x : RoomRents). x.room) (rents_in xs) (r ∷ [])

-- ---- the targets of the groups of the instance

pub curricula_of : (p : Problem) (xs : List Part) → flat_map (λ (g : PricedGroup). g.curricula) (groups_of p xs) ≡ curricula_in xs
curricula_of p xs = flat_map-map (λ (g : PricedGroup). g.curricula) (priced p) (groups_in xs)

pub courses_of : (p : Problem) (xs : List Part) → flat_map (λ (g : PricedGroup). g.courses) (groups_of p xs) ≡ courses_in xs
courses_of p xs = flat_map-map (λ (g : PricedGroup). g.courses) (priced p) (groups_in xs)

-- ---- numbers that are distinct

-- none of the numbers is in a list that has none of them
none_in : (ns ms : List ℕ) → list_any (has_number ns) ms ≡ false → list_all (λ a. list_all (λ b. not (a == b)) ms) ns ≡ true
none_in [] ms e = refl
none_in (n ∷ ns) ms e = and_from (list_all (λ b. not (n == b)) ms) (list_all (λ a. list_all (λ b. not (a == b)) ms) ns)
    (first ms e) (none_in ns ms (rest ms e))
  where
    first : (ms : List ℕ) → list_any (has_number (n ∷ ns)) ms ≡ false → list_all (λ b. not (n == b)) ms ≡ true
    first [] e = refl
    first (m ∷ ms) e = by (n == m) (has_number ns m) (list_any (has_number (n ∷ ns)) ms) e (first ms)
      where
        by : (a b c : Bool) → ((a || b) || c) ≡ false → (c ≡ false → list_all (λ x. not (n == x)) ms ≡ true)
            → (not a && list_all (λ x. not (n == x)) ms) ≡ true
        by true b c e later = absurd cc
        by false true c e later = absurd cc
        by false false c e later = later e

    rest : (ms : List ℕ) → list_any (has_number (n ∷ ns)) ms ≡ false → list_any (has_number ns) ms ≡ false
    rest [] e = refl
    rest (m ∷ ms) e = by (n == m) (has_number ns m) (list_any (has_number (n ∷ ns)) ms) e (rest ms)
      where
        by : (a b c : Bool) → ((a || b) || c) ≡ false → (c ≡ false → list_any (has_number ns) ms ≡ false)
            → (b || list_any (has_number ns) ms) ≡ false
        by true b c e later = absurd cc
        by false true c e later = absurd cc
        by false false c e later = later e

pub distinct_more : (ns ms : List ℕ) → are_distinct ns ≡ true → are_distinct ms ≡ true → list_any (has_number ns) ms ≡ false
    → are_distinct (ns ++ ms) ≡ true
distinct_more ns ms one two apart =
    each_two-append (λ a b. not (a == b)) ns ms
    ∙ and_from (are_distinct ns) (list_all (λ a. list_all (λ b. not (a == b)) ms) ns && are_distinct ms) one
    (and_from (list_all (λ a. list_all (λ b. not (a == b)) ms) ns) (are_distinct ms) (none_in ns ms apart) two)

-- ---- the rents of one more room

pub rent_at-push : (periods : ℕ) (xs : List RoomRents) (x : RoomRents) (r : ℕ) (s : Slot) → has_number (map (λ y. y.room) xs) x.room ≡ false
    → rent_at periods (xs ++ x ∷ []) r s ≡ cond (x.room == r) (slice_index x.rents (s.day * periods + s.period)) (rent_at periods xs r s)
rent_at-push periods [] x r s new = refl
rent_at-push periods (y ∷ ys) x r s new =
    by (y.room == r) refl (x.room == r) refl (y.room == x.room) refl (has_number (map (λ z. z.room) ys) x.room) new
    (rent_at-push periods ys x r s)
  where
    own : ℕ
    own = slice_index x.rents (s.day * periods + s.period)

    first : ℕ
    first = slice_index y.rents (s.day * periods + s.period)

    by : (a : Bool) → (y.room == r) ≡ a → (b : Bool) → (x.room == r) ≡ b → (c : Bool) → (y.room == x.room) ≡ c → (d : Bool)
        → (c || d) ≡ false → (d ≡ false → rent_at periods (ys ++ x ∷ []) r s ≡ cond b own (rent_at periods ys r s))
        → cond a first (rent_at periods (ys ++ x ∷ []) r s) ≡ cond b own (cond a first (rent_at periods ys r s))
    by true e true f c g d new later =
        absurd (both_ways (y.room == x.room) (g ∙ off c d new) (eq-eqb y.room x.room (eqb-true y.room r e ∙ sym (eqb-true x.room r f))))
      where
        off : (c d : Bool) → (c || d) ≡ false → c ≡ false
        off true d e = absurd cc
        off false d e = refl
    by true e false f c g d new later = refl
    by false e b f true g d new later = absurd cc
    by false e b f false g d new later = later new

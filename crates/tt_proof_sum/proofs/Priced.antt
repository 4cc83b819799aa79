-- The targets of groups with prices, and what feasible timetables pay for them.
use Rattle.std.proofs.Common.{◌≡◌, ℕ, ◌+◌, ◌<◌, ◌≤◌, Bool, true, false, not, cond, ◌&&◌, List, [], ◌∷◌, ◌++◌, length, map, append-nil, refl, sym, ap, subst, ◌∙◌, arith}
use Rattle.std.specs.Prelude.{◌==◌, All, sum_by}
use Rattle.std.specs.List.{list_all, AllByRecursion}
use Rattle.std.proofs.lemmas.Bool.{and_from, and_parts, eq-eqb}
use Rattle.std.proofs.lemmas.List.Elements.{recursion_from_All}
use Rattle.std.proofs.lemmas.List.Folds.{list_all-append, list_all-map}
use Rattle.std.proofs.lemmas.List.Sums.{sum_by-append}
use Rattle.tt_list_laws.specs.Words.{each_two, range_below}
use Rattle.tt_list_laws.proofs.Below.{all_pass}
use Rattle.tt_list_laws.proofs.Members.{each_member, each_two-of_map, member-le, number_below}
use Rattle.tt_list_laws.proofs.Range.{each_below, distinct_below}
use Rattle.tt_list_laws.proofs.Sums.{sum_by-le, sum_by-of_map, sum_by-swap}
use Rattle.tt_list_laws.proofs.Tested.{each_append}
use Rattle.tt_list_laws.proofs.Twos.{each_two-append}
use Rattle.tt_instance.specs.Problem.{Problem}
use Rattle.tt_instance.specs.Limits.{IsInstance}
use Rattle.tt_instance.specs.Cells.{all_courses, is_of}
use Rattle.tt_instance.specs.Courses.{excess}
use Rattle.tt_instance.specs.declared.cell.Cell.{Cell}
use Rattle.tt_rules.specs.Score.{IsFeasible}
use Rattle.tt_rules.specs.Soft.{capacity_count, compactness_cost, days_cost, stability_cost, stability_count}
use Rattle.tt_rules.proofs.Feasible.{in_range}
use Rattle.tt_leaf_rules.specs.Claims.{Target, RoomCapacity, WorkingDays, Compactness, Stability, part}
use Rattle.tt_leaf_rules.specs.Inner.NumberSet.{place}
use Rattle.tt_leaf_rules.specs.Tests.{same_target}
use Rattle.tt_prices_file.specs.Files.{curricula_in, courses_in}
use Rattle.tt_prices_file.proofs.Holding.{bound_holds}
use Rattle.tt_prices_file.proofs.Parts.{curricula_of, courses_of}
use Rattle.tt_proof_sum.specs.Sums.{room_targets, targets_with, prices_targets, PricesPart, ArePricesRight}
use Rattle.tt_proof_sum.proofs.Over.{are_different}

-- ---- places within the table

-- the targets of numbers are within the table
pub placed_each : (f : ℕ → Target) (n : ℕ) → ((k : ℕ) → k < n → place (f k) < 32768) → (ks : List ℕ) → AllByRecursion (λ k. k < n) ks
    → AllByRecursion (λ y. place y < 32768) (map f ks)
placed_each f n within [] below = tt
placed_each f n within (k ∷ ks) below = (within k below.0, placed_each f n within ks below.1)

module _ (p : Problem) (k : PricesPart) (right : ArePricesRight p k) where
  abbrev curricula : List ℕ
  curricula = curricula_in k.parts

  abbrev courses : List ℕ
  courses = courses_in k.parts

  curricula_below : AllByRecursion (λ q. q < length p.curricula) curricula
  curricula_below = recursion_from_All (λ q. q < length p.curricula) curricula
      (subst (λ (l : List ℕ). All (λ q. q < length p.curricula) l) (curricula_of p k.parts) right.right.apart.each_curriculum)

  courses_below : AllByRecursion (λ c. c < length p.courses) courses
  courses_below = recursion_from_All (λ c. c < length p.courses) courses
      (subst (λ (l : List ℕ). All (λ c. c < length p.courses) l) (courses_of p k.parts) right.right.apart.each_course)

  pub prices_placed : IsInstance p → AllByRecursion (λ y. place y < 32768) (prices_targets k)
  prices_placed is =
      let few = is.within.courses in
      let few_curricula = is.within.curricula in
      let Placed : Target → Type 0 = λ y. place y < 32768 in
      each_append Placed (map Compactness curricula) (map WorkingDays courses ++ own_rooms k.header.has_rooms)
      (placed_each Compactness (length p.curricula) (λ q l. omega (arith, l, few_curricula)) curricula curricula_below)
      (each_append Placed (map WorkingDays courses) (own_rooms k.header.has_rooms)
      (placed_each WorkingDays (length p.courses) (λ c l. omega (arith, l, few)) courses courses_below)
      (placed_rooms k.header.has_rooms (omega (arith, few, right.courses))))
    where
      own_rooms : Bool → List Target
      own_rooms b = cond b (room_targets k.courses) []

      placed_rooms : (b : Bool) → k.courses ≤ 2048 → AllByRecursion (λ y. place y < 32768) (cond b (room_targets k.courses) [])
      placed_rooms true few =
          let ns = range_below k.courses in
          let below = each_below (λ c. c < k.courses) k.courses (λ c l. l) in
          each_append (λ y. place y < 32768) (map RoomCapacity ns) (map Stability ns)
          (placed_each RoomCapacity k.courses (λ c l. omega (arith, l, few)) ns below)
          (placed_each Stability k.courses (λ c l. omega (arith, l, few)) ns below)
      placed_rooms false few = tt

  -- ---- no target twice

  abbrev differ : Target → Target → Bool
  differ a b = not (same_target a b)

  between : (f g : ℕ → Target) → ((a b : ℕ) → same_target (f a) (g b) ≡ false) → (xs ys : List ℕ)
      → list_all (λ y. list_all (differ y) (map g ys)) (map f xs) ≡ true
  between f g apart xs ys =
      list_all-map (λ y. list_all (differ y) (map g ys)) f xs
      ∙ all_pass (λ a. list_all (differ (f a)) (map g ys)) xs
      (λ a. list_all-map (differ (f a)) g ys ∙ all_pass (λ b. differ (f a) (g b)) ys (λ b. ap not (apart a b)))

  both : (xs ys : List Target) → are_different xs ≡ true → list_all (λ y. list_all (differ y) ys) xs ≡ true → are_different ys ≡ true
      → are_different (xs ++ ys) ≡ true
  both xs ys one cross two =
      each_two-append differ xs ys ∙ and_from (each_two differ xs) (list_all (λ y. list_all (differ y) ys) xs && each_two differ ys) one
      (and_from (list_all (λ y. list_all (differ y) ys) xs) (each_two differ ys) cross two)

  -- targets that differ from those of two lists differ from all of them
  across : (xs ys zs : List Target) → list_all (λ y. list_all (differ y) ys) xs ≡ true → list_all (λ y. list_all (differ y) zs) xs ≡ true
      → list_all (λ y. list_all (differ y) (ys ++ zs)) xs ≡ true
  across [] ys zs a b = refl
  across (x ∷ xs) ys zs a b =
      let one = and_parts (list_all (differ x) ys) (list_all (λ y. list_all (differ y) ys) xs) a in
      let two = and_parts (list_all (differ x) zs) (list_all (λ y. list_all (differ y) zs) xs) b in
      and_from (list_all (differ x) (ys ++ zs)) (list_all (λ y. list_all (differ y) (ys ++ zs)) xs)
      (list_all-append (differ x) ys zs ∙ and_from (list_all (differ x) ys) (list_all (differ x) zs) one.0 two.0)
      (across xs ys zs one.1 two.1)

  pub prices_different : are_different (prices_targets k) ≡ true
  prices_different = by k.header.has_rooms
    where
      first : are_different (map Compactness curricula) ≡ true
      first = each_two-of_map differ Compactness curricula
          ∙ subst (λ (l : List ℕ). each_two (λ a b. not (a == b)) l ≡ true) (curricula_of p k.parts) right.right.apart.curricula

      second : are_different (map WorkingDays courses) ≡ true
      second = each_two-of_map differ WorkingDays courses
          ∙ subst (λ (l : List ℕ). each_two (λ a b. not (a == b)) l ≡ true) (courses_of p k.parts) right.right.apart.courses

      ns : List ℕ
      ns = range_below k.courses

      rooms : are_different (room_targets k.courses) ≡ true
      rooms = both (map RoomCapacity ns) (map Stability ns) (each_two-of_map differ RoomCapacity ns ∙ distinct_below k.courses)
          (between RoomCapacity Stability (λ a b. refl) ns ns) (each_two-of_map differ Stability ns ∙ distinct_below k.courses)

      cross : (f : ℕ → Target) → ((a b : ℕ) → same_target (f a) (RoomCapacity b) ≡ false)
          → ((a b : ℕ) → same_target (f a) (Stability b) ≡ false) → (xs : List ℕ)
          → list_all (λ y. list_all (differ y) (room_targets k.courses)) (map f xs) ≡ true
      cross f one two xs =
          across (map f xs) (map RoomCapacity ns) (map Stability ns) (between f RoomCapacity one xs ns) (between f Stability two xs ns)

      by : (b : Bool) → are_different (targets_with curricula courses b k.courses) ≡ true
      by true = both (map Compactness curricula) (map WorkingDays courses ++ room_targets k.courses) first
          (across (map Compactness curricula) (map WorkingDays courses) (room_targets k.courses)
          (between Compactness WorkingDays (λ a b. refl) curricula courses) (cross Compactness (λ a b. refl) (λ a b. refl) curricula))
          (both (map WorkingDays courses) (room_targets k.courses) second (cross WorkingDays (λ a b. refl) (λ a b. refl) courses) rooms)
      by false = both (map Compactness curricula) (map WorkingDays courses ++ []) first
          (subst (λ (l : List Target). list_all (λ y. list_all (differ y) l) (map Compactness curricula) ≡ true)
          (sym (append-nil (map WorkingDays courses))) (between Compactness WorkingDays (λ a b. refl) curricula courses))
          (subst (λ (l : List Target). are_different l ≡ true) (sym (append-nil (map WorkingDays courses))) second)

  -- ---- what the targets cost

  module _ (t : List Cell) (ok : IsFeasible p t) where
    abbrev f : Target → ℕ
    f = part p t

    -- each entry's seats belong to its course
    seats : capacity_count p t ≤ sum_by (λ c. f (RoomCapacity c)) (all_courses p)
    seats =
        let one : Cell → ℕ → ℕ = λ e c. cond (is_of c e) (excess p e.course e.room) 0 in
        let turned = sum_by-swap (λ c e. one e c) (all_courses p) t in
        let up = sum_by-le (λ e. excess p e.course e.room) (λ e. sum_by (one e) (all_courses p)) t
        (each_member (λ e. excess p e.course e.room ≤ sum_by (one e) (all_courses p)) t
        (λ e there. own e (in_range p t ok e there).course)) in
        omega (arith, turned, up)
      where
        own : (e : Cell) → e.course < length p.courses
            → excess p e.course e.room ≤ sum_by (λ c. cond (is_of c e) (excess p e.course e.room) 0) (all_courses p)
        own e l =
            let g : ℕ → ℕ = λ c. cond (is_of c e) (excess p e.course e.room) 0 in
            let here = member-le g (all_courses p) e.course (number_below (length p.courses) e.course l) in
            let is : g e.course ≡ excess p e.course e.room =
            ap (λ b. cond b (excess p e.course e.room) 0) (eq-eqb e.course e.course refl) in
            omega (arith, here, is)

    pub prices_paid : k.header.bound ≤ sum_by f (prices_targets k)
    prices_paid = by k.header.has_rooms refl
      where
        rooms : sum_by f (room_targets k.courses)
            ≡ sum_by (λ c. f (RoomCapacity c)) (range_below k.courses) + sum_by (stability_cost p t) (range_below k.courses)
        rooms =
            let ns = range_below k.courses in
            let a = sum_by-append f (map RoomCapacity ns) (map Stability ns) in
            let b = sum_by-of_map f RoomCapacity ns in
            let c = sum_by-of_map f Stability ns in
            omega (arith, a, b, c)

        by : (b : Bool) → k.header.has_rooms ≡ b → k.header.bound ≤ sum_by f (targets_with curricula courses b k.courses)
        by b e =
            let rest = map WorkingDays courses ++ cond b (room_targets k.courses) [] in
            let one = sum_by-append f (map Compactness curricula) rest in
            let two = sum_by-append f (map WorkingDays courses) (cond b (room_targets k.courses) []) in
            let first = sum_by-of_map f Compactness curricula in
            let second = sum_by-of_map f WorkingDays courses in
            let holds = bound_holds p k.header k.parts right.right t ok in
            let own = subst (λ z. k.header.bound ≤ (sum_by (compactness_cost p t) curricula + sum_by (days_cost p t) courses)
            + cond z (capacity_count p t + stability_count p t) 0) e holds in
            let last = of_rooms b in
            omega (arith, one, two, first, second, own, last)
          where
            of_rooms : (b : Bool) → cond b (capacity_count p t + stability_count p t) 0 ≤ sum_by f (cond b (room_targets k.courses) [])
            of_rooms true =
                let same : sum_by f (room_targets (length p.courses)) ≡ sum_by f (room_targets k.courses) =
                ap (λ n. sum_by f (room_targets n)) (sym right.courses) in
                let counted = subst (λ n. sum_by f (room_targets k.courses) ≡ sum_by (λ c. f (RoomCapacity c)) (range_below n)
                + sum_by (stability_cost p t) (range_below n)) right.courses rooms in
                omega (arith, counted, seats)
            of_rooms false = omega arith

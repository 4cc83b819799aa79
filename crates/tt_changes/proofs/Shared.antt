-- How many entries two lists share.
use Rattle.std.proofs.Common.{◌≡◌, ℕ, ◌+◌, ◌-◌, ◌<◌, ◌≤◌, Bool, true, false, ◌&&◌, List, ◌++◌, length, refl, sym, ◌∙◌, All, arith, inl, inr, eqb-true, eq-eqb}
use Rattle.std.specs.Prelude.{◌⊎◌, ◌==◌, min, sum_by, count_by, IsPermutation}
use Rattle.std.proofs.lemmas.Bool.{cases_lt, and_parts, and_from, both_ways}
use Rattle.std.proofs.lemmas.List.Elements.{All-contains, All-from_recursion, recursion_from_All}
use Rattle.std.proofs.lemmas.List.Sorted.{sum_by-IsPermutation, All-permutation}
use Rattle.std.proofs.lemmas.List.Sums.{sum_by-append}
use Rattle.tt_list_laws.specs.Words.{range_below}
use Rattle.tt_list_laws.proofs.Counting.{count_by-same_at, sum_by-ones}
use Rattle.tt_list_laws.proofs.Members.{member_from_any, each_of_append}
use Rattle.tt_list_laws.proofs.Numbers.{any_below, count_below}
use Rattle.tt_list_laws.proofs.Sums.{any_if_count, each, each_weaker, one_if, once_at_least, once_at_most, spread_up, spread_down, sum_by-of_map}
use Rattle.tt_instance.specs.Problem.{Problem}
use Rattle.tt_instance.specs.Cells.{InRange, all_courses, all_rooms, is_of, is_in, is_at, slot, cell}
use Rattle.tt_instance.specs.declared.cell.Cell.{Cell}
use Rattle.tt_instance.specs.declared.cell.Slot.{Slot}
use Rattle.tt_table.specs.Table.{IsTimetable}
use Rattle.tt_changes.specs.Lists.{older_entries, newer_entries}
use Rattle.tt_changes.specs.Inner.Pairings.{are_alike, AreApart, IsPaired}
use Rattle.tt_changes.specs.declared.change.Change.{Change}
use Rattle.tt_changes.specs.declared.likeness.Likeness.{Likeness}
use Rattle.tt_changes.specs.declared.likeness.Likeness.TheVariants.{Place, Period, Course}

-- ---- lists apart

-- entries that pass a test have something in common, so at most one of two lists that are apart has some
pub lone : (by : Likeness) (q : Cell → Bool) → ((x y : Cell) → q x ≡ true → q y ≡ true → are_alike by x y ≡ true) → (us vs : List Cell)
    → AreApart by us vs → (count_by q us ≡ 0) ⊎ (count_by q vs ≡ 0)
lone by q joined us vs apart = elim (cases_lt 0 (count_by q us)) [
  | inr none ↦ inl (omega arith)
  | inl some ↦ elim (cases_lt 0 (count_by q vs)) [
    | inr none ↦ inr (omega arith)
    | inl other ↦
        let x = member_from_any q us (any_if_count q us some) in
        let y = member_from_any q vs (any_if_count q vs other) in
        let far = All-contains (λ (z : Cell). are_alike by x.0 z ≡ false) vs y.0
        (All-contains (λ (w : Cell). All (λ (z : Cell). are_alike by w z ≡ false) vs) us x.0 apart x.1) y.1 in
        absurd (both_ways (are_alike by x.0 y.0) far (joined x.0 y.0 x.2 y.2))
  ]
]

pub least_shared : (n a b : ℕ) → (a ≡ 0) ⊎ (b ≡ 0) → min (n + a) (n + b) ≡ n
least_shared n a b (inl h) = omega arith
least_shared n a b (inr h) = omega arith

pub beyond_shared : (n a b : ℕ) → (a ≡ 0) ⊎ (b ≡ 0) → a ≡ (n + a) - (n + b)
beyond_shared n a b (inl h) = omega arith
beyond_shared n a b (inr h) = omega arith

-- ---- counts of the parts

-- the entries that pass are in pairs or alone
pub older_counted : (by : Likeness) (old new : List Cell) (ps : List Change) (us vs : List Cell) (q : Cell → Bool)
    → IsPaired by old new ps us vs → count_by q old ≡ count_by q (older_entries ps) + count_by q us
older_counted by old new ps us vs q h =
    let f : Cell → ℕ = λ x. one_if (q x) in
    omega (arith, sum_by-IsPermutation f old (older_entries ps ++ us) h.old_is, sum_by-append f (older_entries ps) us)

pub newer_counted : (by : Likeness) (old new : List Cell) (ps : List Change) (us vs : List Cell) (q : Cell → Bool)
    → IsPaired by old new ps us vs → count_by q new ≡ count_by q (newer_entries ps) + count_by q vs
newer_counted by old new ps us vs q h =
    let f : Cell → ℕ = λ x. one_if (q x) in
    omega (arith, sum_by-IsPermutation f new (newer_entries ps ++ vs) h.new_is, sum_by-append f (newer_entries ps) vs)

-- if both entries of a pair pass or neither does, as many of the one list as of the other pass
pub pairs_counted : (by : Likeness) (q : Cell → Bool) → ((x y : Cell) → are_alike by x y ≡ true → q x ≡ q y) → (ps : List Change)
    → All (λ (m : Change). are_alike by m.from m.to ≡ true) ps → count_by q (older_entries ps) ≡ count_by q (newer_entries ps)
pairs_counted by q same ps alike =
    let f : Cell → ℕ = λ x. one_if (q x) in
    sum_by-of_map f (λ (m : Change). m.from) ps
    ∙ count_by-same_at (λ (m : Change). are_alike by m.from m.to ≡ true) (λ (m : Change). q m.from) (λ (m : Change). q m.to) ps alike
    (λ m h. same m.from m.to h)
    ∙ sym (sum_by-of_map f (λ (m : Change). m.to) ps)

-- ---- tests of an entry

both_equal : (a b n : ℕ) → (a == n) ≡ true → (b == n) ≡ true → (a == b) ≡ true
both_equal a b n h k = eq-eqb a b (eqb-true a n h ∙ sym (eqb-true b n k))

pub of_course : (c : ℕ) (x y : Cell) → is_of c x ≡ true → is_of c y ≡ true → are_alike Course x y ≡ true
of_course c x y h k = both_equal x.course y.course c h k

pub at_period : (c : ℕ) (s : Slot) (x y : Cell) → (is_of c x && is_at s x) ≡ true → (is_of c y && is_at s y) ≡ true
    → are_alike Period x y ≡ true
at_period c s x y h k =
    let a = and_parts (is_of c x) (is_at s x) h in
    let b = and_parts (is_of c y) (is_at s y) k in
    let at = and_parts (x.day == s.day) (x.period == s.period) a.1 in
    let bt = and_parts (y.day == s.day) (y.period == s.period) b.1 in
    and_from ((x.course == y.course) && (x.day == y.day)) (x.period == y.period)
    (and_from (x.course == y.course) (x.day == y.day) (both_equal x.course y.course c a.0 b.0) (both_equal x.day y.day s.day at.0 bt.0))
    (both_equal x.period y.period s.period at.1 bt.1)

pub at_place : (c r : ℕ) (s : Slot) (x y : Cell) → (is_of c x && is_in r x && is_at s x) ≡ true
    → (is_of c y && is_in r y && is_at s y) ≡ true → are_alike Place x y ≡ true
at_place c r s x y h k =
    let a = and_parts (is_of c x && is_in r x) (is_at s x) h in
    let b = and_parts (is_of c y && is_in r y) (is_at s y) k in
    let ac = and_parts (is_of c x) (is_in r x) a.0 in
    let bc = and_parts (is_of c y) (is_in r y) b.0 in
    let at = and_parts (x.day == s.day) (x.period == s.period) a.1 in
    let bt = and_parts (y.day == s.day) (y.period == s.period) b.1 in
    and_from ((x.course == y.course) && (x.room == y.room) && (x.day == y.day)) (x.period == y.period)
    (and_from ((x.course == y.course) && (x.room == y.room)) (x.day == y.day)
    (and_from (x.course == y.course) (x.room == y.room) (both_equal x.course y.course c ac.0 bc.0) (both_equal x.room y.room r ac.1 bc.1))
    (both_equal x.day y.day s.day at.0 bt.0))
    (both_equal x.period y.period s.period at.1 bt.1)

-- what two entries have in common
pub record InPlace (x y : Cell) : Type 0 where
  pub course : x.course ≡ y.course
  pub room : x.room ≡ y.room
  pub day : x.day ≡ y.day
  pub period : x.period ≡ y.period

pub in_place : (x y : Cell) → are_alike Place x y ≡ true → InPlace x y
in_place x y h =
    let a = and_parts ((x.course == y.course) && (x.room == y.room) && (x.day == y.day)) (x.period == y.period) h in
    let b = and_parts ((x.course == y.course) && (x.room == y.room)) (x.day == y.day) a.0 in
    let c = and_parts (x.course == y.course) (x.room == y.room) b.0 in
    record {
      course = eqb-true x.course y.course c.0;
      room = eqb-true x.room y.room c.1;
      day = eqb-true x.day y.day b.1;
      period = eqb-true x.period y.period a.1;
    }

cells_same : (c r d s e q f u : ℕ) → c ≡ e → r ≡ q → d ≡ f → s ≡ u → cell c r (slot d s) ≡ cell e q (slot f u)
cells_same c r d s e q f u a b g h = rw (a, b, g, h) refl

pub same_place : (x y : Cell) → are_alike Place x y ≡ true → x ≡ y
same_place x y h =
    let k = in_place x y h in
    cells_same x.course x.room x.day x.period y.course y.room y.day y.period k.course k.room k.day k.period

pub record InPeriod (x y : Cell) : Type 0 where
  pub course : x.course ≡ y.course
  pub day : x.day ≡ y.day
  pub period : x.period ≡ y.period

pub in_period : (x y : Cell) → are_alike Period x y ≡ true → InPeriod x y
in_period x y h =
    let a = and_parts ((x.course == y.course) && (x.day == y.day)) (x.period == y.period) h in
    let b = and_parts (x.course == y.course) (x.day == y.day) a.0 in
    record { course = eqb-true x.course y.course b.0; day = eqb-true x.day y.day b.1; period = eqb-true x.period y.period a.1 }

-- ---- sums over numbers

-- entries that pass, by a number of theirs that is below a bound
counted_by_number : (key : Cell → ℕ) (n : ℕ) (chosen : Cell → Bool) (t : List Cell) → All (λ (e : Cell). key e < n) t
    → sum_by (λ k. count_by (λ e. chosen e && (key e == k)) t) (range_below n) ≡ count_by chosen t
counted_by_number key n chosen t ok =
    let f : Cell → ℕ = λ e. one_if (chosen e) in
    let w : ℕ → Cell → ℕ = λ k e. one_if (chosen e && (key e == k)) in
    let up = spread_up f w t (range_below n)
    (each_weaker (λ (e : Cell). key e < n) (λ e. f e ≤ sum_by (λ k. w k e) (range_below n))
    (λ e h. once_at_least (chosen e) (λ k. key e == k) 1 (range_below n)
    (any_below (λ k. key e == k) n (key e) h (eq-eqb (key e) (key e) refl))) t (recursion_from_All (λ (e : Cell). key e < n) t ok)) in
    let down = spread_down f w t (range_below n)
    (each (λ e. sum_by (λ k. w k e) (range_below n) ≤ f e)
    (λ e. once_at_most (chosen e) (λ k. key e == k) 1 (range_below n) (count_below (key e) n)) t) in
    omega (arith, up, down)

pub counted_by_room : (p : Problem) (chosen : Cell → Bool) (t : List Cell) → IsTimetable p t
    → sum_by (λ r. count_by (λ e. chosen e && is_in r e) t) (all_rooms p) ≡ count_by chosen t
counted_by_room p chosen t ok = counted_by_number (λ (e : Cell). e.room) (length p.rooms) chosen t (λ k d h. (ok k d h).room)

pub counted_by_course : (p : Problem) (t : List Cell) → IsTimetable p t → sum_by (λ c. count_by (is_of c) t) (all_courses p) ≡ length t
counted_by_course p t ok =
    counted_by_number (λ (e : Cell). e.course) (length p.courses) (λ e. true) t (λ k d h. (ok k d h).course) ∙ sum_by-ones t

-- ---- parts of a timetable

-- the parts of a timetable are timetables
pub record PartsInRange (p : Problem) (xs ys : List Cell) : Type 0 where
  pub first : IsTimetable p xs
  pub second : IsTimetable p ys

pub parts_in_range : (p : Problem) (t xs ys : List Cell) → IsPermutation t (xs ++ ys) → IsTimetable p t → PartsInRange p xs ys
parts_in_range p t xs ys same ok =
    let all = All-permutation (InRange p) t (xs ++ ys) same ok in
    let two = each_of_append (InRange p) xs ys (recursion_from_All (InRange p) (xs ++ ys) all) in
    record { first = All-from_recursion (InRange p) xs two.0; second = All-from_recursion (InRange p) ys two.1 }

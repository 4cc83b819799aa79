-- The pairs that are found are the changes that the definitions count.
use Rattle.std.proofs.Common.{◌≡◌, ℕ, ◌+◌, ◌-◌, Bool, true, false, ◌&&◌, List, [], ◌∷◌, ◌++◌, length, get_or, refl, sym, ap, ◌∙◌, subst, All, arith, inl, inr, eqb-true, eq-eqb}
use Rattle.std.specs.Prelude.{◌==◌, ◌⊎◌, min, sum_by, count_by, IsPermutation}
use Rattle.std.specs.List.{AllByRecursion}
use Rattle.std.proofs.lemmas.Bool.{and_from, both_ways}
use Rattle.std.proofs.lemmas.List.{length-map}
use Rattle.std.proofs.lemmas.List.Elements.{All-head, All-tail, All-from_recursion, recursion_from_All}
use Rattle.std.proofs.lemmas.List.Sorted.{IsPermutation-trans, IsPermutation-append_right, All-permutation}
use Rattle.tt_list_laws.proofs.Members.{each_of_append, each_of_map}
use Rattle.tt_list_laws.proofs.Sums.{one_if, sum_by-same, sum_by-plus, sum_by-of_map}
use Rattle.tt_instance.specs.Problem.{Problem}
use Rattle.tt_instance.specs.Cells.{InRange, all_courses, all_rooms, all_slots, is_of, is_in, is_at, slot}
use Rattle.tt_instance.specs.declared.cell.Cell.{Cell}
use Rattle.tt_instance.specs.declared.cell.Slot.{Slot}
use Rattle.tt_table.specs.Table.{IsTimetable}
use Rattle.tt_rules.specs.Hard.{entries_of}
use Rattle.tt_rules.proofs.Periods.{slots_of_entries}
use Rattle.tt_changes.specs.Counts.{entries_at, entries_in, kept_periods, kept_places, moved_of, rooms_of}
use Rattle.tt_changes.specs.Lists.{LeavesPeriod, ChangesRoom, ChangeInRange, IsChanges, older_entries, newer_entries, changes_of}
use Rattle.tt_changes.specs.Inner.Pairings.{are_alike, AreApart, IsPaired}
use Rattle.tt_changes.specs.declared.change.Change.{Change}
use Rattle.tt_changes.specs.declared.change.Changes.{Changes}
use Rattle.tt_changes.specs.declared.likeness.Likeness.{Likeness}
use Rattle.tt_changes.specs.declared.likeness.Likeness.TheVariants.{Place, Period, Course}
use Rattle.tt_changes.proofs.Shared.{PartsInRange, lone, least_shared, beyond_shared, older_counted, newer_counted, pairs_counted, of_course, at_period, at_place, same_place, in_period, counted_by_room, counted_by_course, parts_in_range}

-- ---- pairs

-- pairs of the same places
same_lists : (ps : List Change) → All (λ (m : Change). are_alike Place m.from m.to ≡ true) ps → older_entries ps ≡ newer_entries ps
same_lists [] h = refl
same_lists (m ∷ ps) h =
    let first = same_place m.from m.to (All-head (λ (c : Change). are_alike Place c.from c.to ≡ true) m ps h) in
    let others = same_lists ps (All-tail (λ (c : Change). are_alike Place c.from c.to ≡ true) m ps h) in
    cc

-- the entries of pairs from lists that are apart have nothing in common
apart_pairs : (by other : Likeness) (us vs : List Cell) (ps : List Change) (xs ys : List Cell) → AreApart by us vs
    → IsPaired other us vs ps xs ys → All (λ (m : Change). are_alike by m.from m.to ≡ false) ps
apart_pairs by other us vs ps xs ys apart h =
    let Far : Cell → Cell → Type 0 = λ x y. are_alike by x y ≡ false in
    let outer : AllByRecursion (λ (m : Change). All (Far m.from) vs) ps =
    each_of_map (λ (x : Cell). All (Far x) vs) (λ (m : Change). m.from) ps
    (each_of_append (λ (x : Cell). All (Far x) vs) (older_entries ps) xs
    (recursion_from_All (λ (x : Cell). All (Far x) vs) (older_entries ps ++ xs)
    (All-permutation (λ (x : Cell). All (Far x) vs) us (older_entries ps ++ xs) h.old_is apart))).0 in
    let inner : (x : Cell) → All (Far x) vs → AllByRecursion (λ (m : Change). Far x m.to) ps = λ x far.
    each_of_map (Far x) (λ (m : Change). m.to) ps
    (each_of_append (Far x) (newer_entries ps) ys
    (recursion_from_All (Far x) (newer_entries ps ++ ys) (All-permutation (Far x) vs (newer_entries ps ++ ys) h.new_is far))).0 in
    let all = All-from_recursion (λ (m : Change). All (Far m.from) vs) ps outer in
    λ k d less. All-from_recursion (λ (m : Change). Far (get_or ps k d).from m.to) ps (inner (get_or ps k d).from (all k d less)) k d less

leaves : (m : Change) → are_alike Course m.from m.to ≡ true → are_alike Period m.from m.to ≡ false → LeavesPeriod m
leaves m same other =
    let course = eqb-true m.from.course m.to.course same in
    record {
      course = course;
      period = λ e. both_ways (are_alike Period m.from m.to) other
          (and_from ((m.from.course == m.to.course) && (m.from.day == m.to.day)) (m.from.period == m.to.period)
          (and_from (m.from.course == m.to.course) (m.from.day == m.to.day) same
          (eq-eqb m.from.day m.to.day (ap (λ (s : Slot). s.day) e)))
          (eq-eqb m.from.period m.to.period (ap (λ (s : Slot). s.period) e)));
    }

slots_same : (d s e u : ℕ) → d ≡ e → s ≡ u → slot d s ≡ slot e u
slots_same d s e u a b = rw (a, b) refl

changes_room : (m : Change) → are_alike Period m.from m.to ≡ true → are_alike Place m.from m.to ≡ false → ChangesRoom m
changes_room m same other =
    let k = in_period m.from m.to same in
    let day = k.day in
    let period = k.period in
    record {
      course = k.course;
      period = slots_same m.from.day m.from.period m.to.day m.to.period day period;
      room = λ e. both_ways (are_alike Place m.from m.to) other
          (and_from ((m.from.course == m.to.course) && (m.from.room == m.to.room) && (m.from.day == m.to.day))
          (m.from.period == m.to.period)
          (and_from ((m.from.course == m.to.course) && (m.from.room == m.to.room)) (m.from.day == m.to.day)
          (and_from (m.from.course == m.to.course) (m.from.room == m.to.room) (eq-eqb m.from.course m.to.course k.course)
          (eq-eqb m.from.room m.to.room e))
          (eq-eqb m.from.day m.to.day day))
          (eq-eqb m.from.period m.to.period period));
    }

changes_in_range : (p : Problem) (ps : List Change) → IsTimetable p (older_entries ps) → IsTimetable p (newer_entries ps)
    → All (ChangeInRange p) ps
changes_in_range p ps old new = λ k d less. record {
  from = All-from_recursion (λ (m : Change). InRange p m.from) ps
      (each_of_map (InRange p) (λ (m : Change). m.from) ps (recursion_from_All (InRange p) (older_entries ps) old)) k d less;
  to = All-from_recursion (λ (m : Change). InRange p m.to) ps
      (each_of_map (InRange p) (λ (m : Change). m.to) ps (recursion_from_All (InRange p) (newer_entries ps) new)) k d less;
}

turned : (a b : ℕ) → (a ≡ 0) ⊎ (b ≡ 0) → (b ≡ 0) ⊎ (a ≡ 0)
turned a b (inl h) = inr h
turned a b (inr h) = inl h

-- ---- the three rounds

-- a list, the rest of it, and the rest of that
joined : (xs us vs f g rest : List Cell) → IsPermutation xs (f ++ us) → IsPermutation us (g ++ vs) → IsPermutation vs rest
    → IsPermutation xs (f ++ (g ++ rest))
joined xs us vs f g rest h k l =
    IsPermutation-trans xs (f ++ us) (f ++ (g ++ rest)) h
    (IsPermutation-append_right f us (g ++ rest) (IsPermutation-trans us (g ++ vs) (g ++ rest) k (IsPermutation-append_right g vs rest l)))

module _ (p : Problem) (old new : List Cell) (stayed : List Change) (a1 b1 : List Cell) (a2 b2 : List Cell) (found : Changes)
    (h1 : IsPaired Place old new stayed a1 b1) (h2 : IsPaired Period a1 b1 found.rooms.items a2 b2)
    (h3 : IsPaired Course a2 b2 found.moved.items found.gone.items found.added.items)
    (old_ok : IsTimetable p old) (new_ok : IsTimetable p new) where
  abbrev first : List Cell
  first = older_entries stayed

  abbrev second : List Cell
  second = older_entries found.rooms.items

  abbrev third : List Cell
  third = older_entries found.moved.items

  old_1 : PartsInRange p first a1
  old_1 = parts_in_range p old first a1 h1.old_is old_ok

  old_2 : PartsInRange p second a2
  old_2 = parts_in_range p a1 second a2 h2.old_is old_1.second

  old_3 : PartsInRange p third found.gone.items
  old_3 = parts_in_range p a2 third found.gone.items h3.old_is old_2.second

  new_1 : PartsInRange p (newer_entries stayed) b1
  new_1 = parts_in_range p new (newer_entries stayed) b1 h1.new_is new_ok

  new_2 : PartsInRange p (newer_entries found.rooms.items) b2
  new_2 = parts_in_range p b1 (newer_entries found.rooms.items) b2 h2.new_is new_1.second

  new_3 : PartsInRange p (newer_entries found.moved.items) found.added.items
  new_3 = parts_in_range p b2 (newer_entries found.moved.items) found.added.items h3.new_is new_2.second

  -- the lectures that keep a place
  place_shared : (c r : ℕ) (s : Slot) → min (entries_in old c r s) (entries_in new c r s) ≡ count_by
      (λ e. is_of c e && is_in r e && is_at s e) first
  place_shared c r s =
      let q : Cell → Bool = λ e. is_of c e && is_in r e && is_at s e in
      let least = least_shared (count_by q first) (count_by q a1) (count_by q b1) (lone Place q (at_place c r s) a1 b1 h1.apart) in
      omega (
        arith,
        older_counted Place old new stayed a1 b1 q h1,
        newer_counted Place old new stayed a1 b1 q h1,
        pairs_counted Place q (λ x y h. ap q (same_place x y h)) stayed h1.alike,
        least,
      )

  kept_places_is : (c : ℕ) → kept_places p old new c ≡ count_by (is_of c) first
  kept_places_is c =
      sum_by-same (λ r. sum_by (λ s. min (entries_in old c r s) (entries_in new c r s)) (all_slots p))
      (λ r. count_by (λ e. is_of c e && is_in r e) first) (all_rooms p)
      (λ r.
      sum_by-same (λ s. min (entries_in old c r s) (entries_in new c r s)) (λ s. count_by (λ e. is_of c e && is_in r e && is_at s e) first)
      (all_slots p) (place_shared c r) ∙ slots_of_entries p first (λ e. is_of c e && is_in r e) old_1.first)
      ∙ counted_by_room p (is_of c) first old_1.first

  -- the lectures that keep a period
  period_shared : (c : ℕ) (s : Slot) → min (entries_at old c s) (entries_at new c s) ≡ count_by (λ e. is_of c e && is_at s e)
      first + count_by (λ e. is_of c e && is_at s e) second
  period_shared c s =
      let q : Cell → Bool = λ e. is_of c e && is_at s e in
      let least = least_shared (count_by q first + count_by q second) (count_by q a2) (count_by q b2)
      (lone Period q (at_period c s) a2 b2 h2.apart) in
      omega (
        arith,
        older_counted Place old new stayed a1 b1 q h1,
        newer_counted Place old new stayed a1 b1 q h1,
        older_counted Period a1 b1 found.rooms.items a2 b2 q h2,
        newer_counted Period a1 b1 found.rooms.items a2 b2 q h2,
        pairs_counted Place q (λ x y h. ap q (same_place x y h)) stayed h1.alike,
        pairs_counted Period q (λ x y h. let k = in_period x y h in in_periods x y k.course k.day k.period) found.rooms.items h2.alike,
        least,
      )
    where
      in_periods : (x y : Cell) → x.course ≡ y.course → x.day ≡ y.day → x.period ≡ y.period
          → (is_of c x && is_at s x) ≡ (is_of c y && is_at s y)
      in_periods x y a b d = rw (a, b, d) refl

  kept_periods_is : (c : ℕ) → kept_periods p old new c ≡ count_by (is_of c) first + count_by (is_of c) second
  kept_periods_is c =
      let f : Slot → ℕ = λ s. count_by (λ e. is_of c e && is_at s e) first in
      let g : Slot → ℕ = λ s. count_by (λ e. is_of c e && is_at s e) second in
      let each = sum_by-same (λ s. min (entries_at old c s) (entries_at new c s)) (λ s. f s + g s) (all_slots p) (period_shared c) in
      omega (
        arith,
        each,
        sum_by-plus f g (all_slots p),
        slots_of_entries p first (is_of c) old_1.first,
        slots_of_entries p second (is_of c) old_2.first,
      )

  -- the lectures that both timetables have
  older_is : (c : ℕ) → entries_of old c ≡ (count_by (is_of c) first + count_by (is_of c) second + count_by (is_of c) third) + count_by
      (is_of c) found.gone.items
  older_is c =
      omega (
        arith,
        older_counted Place old new stayed a1 b1 (is_of c) h1,
        older_counted Period a1 b1 found.rooms.items a2 b2 (is_of c) h2,
        older_counted Course a2 b2 found.moved.items found.gone.items found.added.items (is_of c) h3,
      )

  newer_is : (c : ℕ) → entries_of new c ≡ (count_by (is_of c) first + count_by (is_of c) second + count_by (is_of c) third) + count_by
      (is_of c) found.added.items
  newer_is c =
      omega (
        arith,
        newer_counted Place old new stayed a1 b1 (is_of c) h1,
        newer_counted Period a1 b1 found.rooms.items a2 b2 (is_of c) h2,
        newer_counted Course a2 b2 found.moved.items found.gone.items found.added.items (is_of c) h3,
        pairs_counted Place (is_of c) (λ x y h. ap (is_of c) (same_place x y h)) stayed h1.alike,
        pairs_counted Period (is_of c) (λ x y h. ap (λ n. n == c) (in_period x y h).course) found.rooms.items h2.alike,
        pairs_counted Course (is_of c) (λ x y h. ap (λ n. n == c) (eqb-true x.course y.course h)) found.moved.items h3.alike,
      )

  moved_is : (c : ℕ) → moved_of p old new c ≡ count_by (is_of c) third
  moved_is c =
      let least = least_shared (count_by (is_of c) first + count_by (is_of c) second + count_by (is_of c) third)
      (count_by (is_of c) found.gone.items) (count_by (is_of c) found.added.items)
      (lone Course (is_of c) (of_course c) found.gone.items found.added.items h3.apart) in
      omega (arith, least, older_is c, newer_is c, kept_periods_is c)

  rooms_is : (c : ℕ) → rooms_of p old new c ≡ count_by (is_of c) second
  rooms_is c = omega (arith, kept_periods_is c, kept_places_is c)

  gone_is : (c : ℕ) → entries_of found.gone.items c ≡ entries_of old c - entries_of new c
  gone_is c =
      let beyond = beyond_shared (count_by (is_of c) first + count_by (is_of c) second + count_by (is_of c) third)
      (count_by (is_of c) found.gone.items) (count_by (is_of c) found.added.items)
      (lone Course (is_of c) (of_course c) found.gone.items found.added.items h3.apart) in
      omega (arith, beyond, older_is c, newer_is c)

  added_is : (c : ℕ) → entries_of found.added.items c ≡ entries_of new c - entries_of old c
  added_is c =
      let beyond = beyond_shared (count_by (is_of c) first + count_by (is_of c) second + count_by (is_of c) third)
      (count_by (is_of c) found.added.items) (count_by (is_of c) found.gone.items)
      (turned (count_by (is_of c) found.gone.items) (count_by (is_of c) found.added.items)
      (lone Course (is_of c) (of_course c) found.gone.items found.added.items h3.apart)) in
      omega (arith, beyond, older_is c, newer_is c)

  by_course : (ps : List Change) (c : ℕ) → changes_of ps c ≡ count_by (is_of c) (older_entries ps)
  by_course ps c = let f : Cell → ℕ = λ e. one_if (is_of c e) in sym (sum_by-of_map f (λ (m : Change). m.from) ps)

  -- all changes of a kind
  all_counted : (ps : List Change) (n : ℕ → ℕ) → IsTimetable p (older_entries ps) → ((c : ℕ) → n c ≡ count_by (is_of c) (older_entries ps))
      → length ps ≡ sum_by n (all_courses p)
  all_counted ps n ok each =
      sym (length-map ps (λ (m : Change). m.from)) ∙ sym (counted_by_course p (older_entries ps) ok)
      ∙ sym (sum_by-same n (λ c. count_by (is_of c) (older_entries ps)) (all_courses p) each)

  old_split : IsPermutation old (first ++ (second ++ (third ++ found.gone.items)))
  old_split =
      joined old a1 a2 first second (third ++ found.gone.items) h1.old_is h2.old_is h3.old_is

  new_split : IsPermutation new (first ++ (newer_entries found.rooms.items ++ (newer_entries found.moved.items ++ found.added.items)))
  new_split =
      subst (λ (z : List Cell). IsPermutation new (z ++ (newer_entries found.rooms.items ++
      (newer_entries found.moved.items ++ found.added.items))))
      (sym (same_lists stayed h1.alike))
      (joined new b1 b2 (newer_entries stayed) (newer_entries found.rooms.items) (newer_entries found.moved.items ++ found.added.items)
      h1.new_is
      h2.new_is h3.new_is)

  pub found_changes : IsChanges p old new found
  found_changes = record {
    stay = first;
    older = old_split;
    newer = new_split;
    moved = λ k d less. leaves (get_or found.moved.items k d) (h3.alike k d less)
        (apart_pairs Period Course a2 b2 found.moved.items found.gone.items found.added.items h2.apart h3 k d less);
    rooms = λ k d less. changes_room (get_or found.rooms.items k d) (h2.alike k d less)
        (apart_pairs Place Period a1 b1 found.rooms.items a2 b2 h1.apart h2 k d less);
    in_range = record {
      moved = changes_in_range p found.moved.items old_3.first new_3.first;
      rooms = changes_in_range p found.rooms.items old_2.first new_2.first;
      gone = old_3.second;
      added = new_3.second;
    };
    moved_each = λ c. by_course found.moved.items c ∙ sym (moved_is c);
    rooms_each = λ c. by_course found.rooms.items c ∙ sym (rooms_is c);
    gone_each = gone_is;
    added_each = added_is;
    moved_all = all_counted found.moved.items (moved_of p old new) old_3.first moved_is;
    rooms_all = all_counted found.rooms.items (rooms_of p old new) old_2.first rooms_is;
  }

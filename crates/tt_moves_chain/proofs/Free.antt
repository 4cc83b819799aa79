-- Timetables in which no two entries in one period conflict.
use Rattle.std.proofs.Common.{◌≡◌, ℕ, zero, suc, ◌-◌, ◌≤◌, ◌<◌, Bool, true, ◌&&◌, ◌||◌, List, [], ◌∷◌, length, get_or, refl, sym, ap, ◌∙◌, arith, inl, inr, eq-eqb, eqb-true, le_of_suc-le-suc, zero-le}
use Rattle.std.specs.Prelude.{◌==◌, sum_by, count_by}
use Rattle.std.specs.List.{list_any}
use Rattle.std.proofs.lemmas.Bool.{cases_Bool, cases_lt, and_parts, and_from, or_cases, or_left, or_right}
use Rattle.std.proofs.lemmas.List.Elements.{Contains-get_or, recursion_from_All}
use Rattle.std.proofs.lemmas.List.Folds.{list_any_at}
use Rattle.tt_list_laws.specs.Words.{count_pairs}
use Rattle.tt_instance.specs.Problem.{Problem}
use Rattle.tt_instance.specs.Cells.{slot_of, all_slots, all_courses, all_rooms, is_of, is_at, is_in}
use Rattle.tt_instance.specs.Courses.{lectures, conflict}
use Rattle.tt_table.specs.Table.{IsTimetable}
use Rattle.tt_rules.specs.Hard.{entries_of, periods_of, entries_in, collide, lectures_off, availability_count}
use Rattle.tt_rules.specs.Score.{IsFeasible}
use Rattle.tt_instance.specs.declared.cell.Slot.{Slot}
use Rattle.tt_instance.specs.declared.cell.Cell.{Cell}
use Rattle.tt_list_laws.proofs.Sums.{one_if, one_if_true, one_if_false, count_by-cons, any_if_count, count_if_any, sum_by-nothing, sum_by-same, sum_by-le, spread_up, once_at_least, each}
use Rattle.tt_instance.proofs.Places.{any_slot}
use Rattle.tt_list_laws.proofs.Members.{member_from_any}
use Rattle.tt_instance.proofs.Exclusion.{eqb-turn}
use Rattle.tt_rules.proofs.Feasible.{once_at, one_in, no_collision}
use Rattle.tt_moves_chain.specs.Chains.{exclude}
use Rattle.tt_instance.proofs.Cells.{at_itself}

abbrev pub same_period : Cell → Cell → Bool
same_period x y = (x.day == y.day) && (x.period == y.period)

-- whether no two entries in one period conflict
abbrev pub IsFree : Problem → List Cell → Type 0
IsFree p t =
    (i j : ℕ) (d : Cell) → i < length t → j < length t → (i ≡ j → ⊥) → same_period (get_or t i d) (get_or t j d) ≡ true
    → exclude p (get_or t i d) (get_or t j d) ≡ true → ⊥

module _ {X : Type 0} where
  -- if two places pass, the count is at least 2
  pub two_pass : (q : X → Bool) (xs : List X) (i j : ℕ) (d : X) → i < length xs → j < length xs → (i ≡ j → ⊥) → q (get_or xs i d) ≡ true
      → q (get_or xs j d) ≡ true → 2 ≤ count_by q xs
  two_pass q [] i j d h k ne a b = absurd (omega arith)
  two_pass q (x ∷ xs) zero zero d h k ne a b = absurd (ne refl)
  two_pass q (x ∷ xs) zero (suc j) d h k ne a b =
      let l = le_of_suc-le-suc k in
      omega (arith, count_by-cons q x xs, one_if_true (q x) a, count_if_any q xs (list_any_at q xs j d l b))
  two_pass q (x ∷ xs) (suc i) zero d h k ne a b =
      let l = le_of_suc-le-suc h in
      omega (arith, count_by-cons q x xs, one_if_true (q x) b, count_if_any q xs (list_any_at q xs i d l a))
  two_pass q (x ∷ xs) (suc i) (suc j) d h k ne a b =
      omega (arith, count_by-cons q x xs, two_pass q xs i j d (le_of_suc-le-suc h) (le_of_suc-le-suc k) (λ e. ne (ap suc e)) a b)

  -- if no two places pass, at most one does
  pub one_passes : (q : X → Bool) (xs : List X) → ((i j : ℕ) (d : X) → i < length xs → j < length xs → (i ≡ j → ⊥)
      → q (get_or xs i d) ≡ true → q (get_or xs j d) ≡ true → ⊥) → count_by q xs ≤ 1
  one_passes q [] none = zero-le
  one_passes q (x ∷ xs) none = elim (cases_Bool (q x)) [
    | inl e ↦ elim (cases_lt 0 (count_by q xs)) [
      | inl h ↦ let w = member_from_any q xs (any_if_count q xs h) in
          absurd (none zero (suc w.1.0) w.0 (omega arith) (suc_below w.1.0 (length xs) w.1.1) (λ k. omega arith) e (ap q w.1.2 ∙ w.2))
      | inr h ↦ omega (arith, count_by-cons q x xs, one_if_true (q x) e)
    ]
    | inr e ↦
        omega (
          arith,
          count_by-cons q x xs,
          one_if_false (q x) e,
          one_passes q xs (λ i j d h k ne a b. none (suc i) (suc j) d (suc_below i (length xs) h) (suc_below j (length xs) k)
              (λ z. ne (omega arith)) a b),
        )
  ]
    where
      suc_below : (i n : ℕ) → i < n → suc i < suc n
      suc_below i n h = omega arith

  pub no_pairs : (related : X → X → Bool) (xs : List X) → ((i j : ℕ) (d : X) → i < length xs → j < length xs → (i ≡ j → ⊥)
      → related (get_or xs i d) (get_or xs j d) ≡ true → ⊥) → count_pairs related xs ≡ 0
  no_pairs related [] none = refl
  no_pairs related (x ∷ xs) none =
      let rest = no_pairs related xs (λ i j d h k ne r. none (suc i) (suc j) d (suc_below i (length xs) h) (suc_below j (length xs) k)
      (λ z. ne (omega arith)) r) in
      elim (cases_lt 0 (count_by (related x) xs)) [
        | inl h ↦ let w = member_from_any (related x) xs (any_if_count (related x) xs h) in
            absurd (none zero (suc w.1.0) w.0 (omega arith) (suc_below w.1.0 (length xs) w.1.1) (λ k. omega arith)
            (ap (related x) w.1.2 ∙ w.2))
        | inr h ↦ omega arith
      ]
    where
      suc_below : (i n : ℕ) → i < n → suc i < suc n
      suc_below i n h = omega arith

at_other : (x y : Cell) → same_period x y ≡ true → is_at (slot_of x) y ≡ true
at_other x y e = let h = and_parts (x.day == y.day) (x.period == y.period) e in and_from (y.day == x.day) (y.period == x.period)
    (eqb-turn x.day y.day h.0) (eqb-turn x.period y.period h.1)

-- a feasible timetable has no conflicting entries in one period
pub free_from_feasible : (p : Problem) (t : List Cell) → IsFeasible p t → IsFree p t
free_from_feasible p t ok i j d h k ne same e =
    let x = get_or t i d in
    let y = get_or t j d in
    let r = ok.timetable i d h in
    elim (or_cases ((x.room == y.room) || (x.course == y.course)) (conflict p x.course y.course) e) [
      | inl g ↦ elim (or_cases (x.room == y.room) (x.course == y.course) g) [
        | inl m ↦
            let two = two_pass (λ z. is_in x.room z && is_at (slot_of x) z) t i j d h k ne
            (and_from (is_in x.room x) (is_at (slot_of x) x) (eq-eqb x.room x.room refl) (at_itself x))
            (and_from (is_in x.room y) (is_at (slot_of x) y) (eqb-turn x.room y.room m) (at_other x y same)) in
            let one = one_in p t ok x r in
            absurd (omega arith)
        | inr m ↦
            let two = two_pass (λ z. is_of x.course z && is_at (slot_of x) z) t i j d h k ne
            (and_from (is_of x.course x) (is_at (slot_of x) x) (eq-eqb x.course x.course refl) (at_itself x))
            (and_from (is_of x.course y) (is_at (slot_of x) y) (eqb-turn x.course y.course m) (at_other x y same)) in
            let one = once_at p t ok x.course x r in
            absurd (omega arith)
      ]
      | inr g ↦
          let s = and_parts (x.day == y.day) (x.period == y.period) same in
          no_collision p t ok x y (Contains-get_or t i d h) (Contains-get_or t j d k)
          (and_from ((x.day == y.day) && (x.period == y.period)) (conflict p x.course y.course)
          (and_from (x.day == y.day) (x.period == y.period) s.0 s.1) g)
    ]

-- two entries at one slot have one period
pub same_at : (s : Slot) (x y : Cell) → is_at s x ≡ true → is_at s y ≡ true → same_period x y ≡ true
same_at s x y a b =
    let h = and_parts (x.day == s.day) (x.period == s.period) a in
    let k = and_parts (y.day == s.day) (y.period == s.period) b in
    and_from (x.day == y.day) (x.period == y.period)
    (eq-eqb x.day y.day (eqb-true x.day s.day h.0 ∙ sym (eqb-true y.day s.day k.0)))
    (eq-eqb x.period y.period (eqb-true x.period s.period h.1 ∙ sym (eqb-true y.period s.period k.1)))

module _ (p : Problem) (t : List Cell) (ok : IsTimetable p t) (free : IsFree p t) where
  once : (c : ℕ) (s : Slot) → count_by (λ e. is_of c e && is_at s e) t ≤ 1
  once c s = one_passes (λ e. is_of c e && is_at s e) t (λ i j d h k ne a b.
      let x = get_or t i d in
      let y = get_or t j d in
      let f = and_parts (is_of c x) (is_at s x) a in
      let g = and_parts (is_of c y) (is_at s y) b in
      free i j d h k ne (same_at s x y f.1 g.1)
      (or_left ((x.room == y.room) || (x.course == y.course)) (conflict p x.course y.course)
      (or_right (x.room == y.room) (x.course == y.course)
      (eq-eqb x.course y.course (eqb-true x.course c f.0 ∙ sym (eqb-true y.course c g.0))))))

  alone_in : (r : ℕ) (s : Slot) → entries_in t r s ≤ 1
  alone_in r s = one_passes (λ e. is_in r e && is_at s e) t (λ i j d h k ne a b.
      let x = get_or t i d in
      let y = get_or t j d in
      let f = and_parts (is_in r x) (is_at s x) a in
      let g = and_parts (is_in r y) (is_at s y) b in
      free i j d h k ne (same_at s x y f.1 g.1)
      (or_left ((x.room == y.room) || (x.course == y.course)) (conflict p x.course y.course)
      (or_left (x.room == y.room) (x.course == y.course) (eq-eqb x.room y.room (eqb-true x.room r f.0 ∙ sym (eqb-true y.room r g.0))))))

  count_if : (q : Cell → Bool) → count_by q t ≤ 1 → count_by q t ≤ one_if (list_any q t)
  count_if q h = elim (cases_lt 0 (count_by q t)) [
    | inl k ↦ omega (arith, one_if_true (list_any q t) (any_if_count q t k))
    | inr k ↦ omega arith
  ]

  in_distinct : (c : ℕ) → entries_of t c ≤ periods_of p t c
  in_distinct c =
      let many = λ (s : Slot). count_by (λ e. is_of c e && is_at s e) t in
      let spread = spread_up (λ e. one_if (is_of c e)) (λ s e. one_if (is_of c e && is_at s e)) t (all_slots p)
      (recursion_from_All (λ e. one_if (is_of c e) ≤ sum_by (λ s. one_if (is_of c e && is_at s e)) (all_slots p)) t (λ k d h.
      let e = get_or t k d in
      let r = ok k d h in
      once_at_least (is_of c e) (λ s. is_at s e) 1 (all_slots p)
      (any_slot p (λ s. is_at s e) e.day e.period r.day r.period (at_itself e)))) in
      let at_most = sum_by-le many (λ s. one_if (list_any (λ e. is_of c e && is_at s e) t)) (all_slots p)
      (each (λ s. many s ≤ one_if (list_any (λ e. is_of c e && is_at s e) t))
      (λ s. count_if (λ e. is_of c e && is_at s e) (once c s)) (all_slots p)) in
      omega arith

  -- a timetable without conflicting entries, with each course's lectures in available periods, is feasible
  pub feasible_from_free : ((c : ℕ) → entries_of t c ≡ lectures p c) → availability_count p t ≡ 0 → IsFeasible p t
  feasible_from_free met open_periods = record {
    timetable = ok;
    lectures = sum_by-same (lectures_off p t) (λ c. 0) (all_courses p) (λ c. let m = met c in let d = in_distinct c in omega arith)
        ∙ sum_by-nothing (all_courses p);
    conflicts = no_pairs (collide p) t (λ i j d h k ne e.
        let x = get_or t i d in
        let y = get_or t j d in
        let f = and_parts ((x.day == y.day) && (x.period == y.period)) (conflict p x.course y.course) e in
        free i j d h k ne f.0 (or_right ((x.room == y.room) || (x.course == y.course)) (conflict p x.course y.course) f.1));
    availability = open_periods;
    room_occupancy = sum_by-same (λ r. sum_by (λ s. entries_in t r s - 1) (all_slots p)) (λ r. 0) (all_rooms p)
        (λ r. sum_by-same (λ s. entries_in t r s - 1) (λ s. 0) (all_slots p) (λ s. let a = alone_in r s in omega arith)
        ∙ sum_by-nothing (all_slots p)) ∙ sum_by-nothing (all_rooms p);
  }

-- After entries of two periods change periods, no two that conflict share a period.
use Rattle.std.proofs.Common.{◌≡◌, ℕ, zero, suc, ◌+◌, ◌<◌, Bool, true, false, cond, ◌&&◌, ◌||◌, List, [], ◌∷◌, length, get_or, refl, sym, ap, ◌∙◌, subst, arith, inl, inr, le_of_suc-le-suc}
use Rattle.std.specs.Prelude.{◌==◌}
use Rattle.std.proofs.lemmas.Bool.{cases_Bool, and_parts, and_from, or_cases, or_left, or_right, both_ways}
use Rattle.tt_instance.specs.Problem.{Problem}
use Rattle.tt_instance.specs.Cells.{InRange, is_of, is_at}
use Rattle.tt_instance.specs.Courses.{conflict, unavailable}
use Rattle.tt_table.specs.Table.{IsTimetable}
use Rattle.tt_rules.specs.Hard.{entries_of, availability_count}
use Rattle.tt_rules.specs.Score.{IsFeasible}
use Rattle.tt_instance.specs.declared.cell.Slot.{Slot}
use Rattle.tt_instance.specs.declared.cell.Cell.{Cell}
use Rattle.tt_list_laws.proofs.Sums.{one_if, count_by-cons}
use Rattle.tt_list_laws.proofs.Members.{none_counted}
use Rattle.std.proofs.lemmas.List.Elements.{Contains-get_or}
use Rattle.tt_instance.proofs.Exclusion.{eqb-turn, conflict-turn}
use Rattle.tt_rules.proofs.Feasible.{lectures_met, available}
use Rattle.tt_moves_chain.specs.Chains.{exclude, linked, IsClosed, other, turned, moved, swapped_from, swapped, IsOpen}
use Rattle.tt_moves_chain.proofs.Free.{IsFree, same_period, same_at, free_from_feasible, feasible_from_free}

exclude-turn : (p : Problem) (x y : Cell) → exclude p x y ≡ true → exclude p y x ≡ true
exclude-turn p x y e = elim (or_cases ((x.room == y.room) || (x.course == y.course)) (conflict p x.course y.course) e) [
  | inl g ↦ or_left ((y.room == x.room) || (y.course == x.course)) (conflict p y.course x.course)
      (elim (or_cases (x.room == y.room) (x.course == y.course) g) [
        | inl m ↦ or_left (y.room == x.room) (y.course == x.course) (eqb-turn x.room y.room m)
        | inr m ↦ or_right (y.room == x.room) (y.course == x.course) (eqb-turn x.course y.course m)
      ])
  | inr g ↦ or_right ((y.room == x.room) || (y.course == x.course)) (conflict p y.course x.course) (conflict-turn p x.course y.course g)
]

-- an entry with the day and period of a slot is at this slot
at_slot : (s : Slot) (y : Cell) → ((s.day == y.day) && (s.period == y.period)) ≡ true → is_at s y ≡ true
at_slot s y e = let h = and_parts (s.day == y.day) (s.period == y.period) e in and_from (y.day == s.day) (y.period == s.period)
    (eqb-turn s.day y.day h.0) (eqb-turn s.period y.period h.1)

module _ (p : Problem) (a b : Slot) (apart : ((a.day == b.day) && (a.period == b.period)) ≡ false) where
  -- a moved member and an entry that is not moved
  one_turned : (x y : Cell) → (is_at a x || is_at b x) ≡ true → (linked p a b x y ≡ true → ⊥) → same_period (turned a b x) y ≡ true
      → exclude p x y ≡ true → ⊥
  one_turned x y within no_link same e = elim (cases_Bool (is_at a x)) [
    | inl at_a ↦
        let there : is_at b y ≡ true =
        at_slot b y (subst (λ z. (((cond z b a).day == y.day) && ((cond z b a).period == y.period)) ≡ true) at_a same) in
        no_link (and_from ((is_at a x && is_at b y) || (is_at b x && is_at a y)) (exclude p x y)
        (or_left (is_at a x && is_at b y) (is_at b x && is_at a y) (and_from (is_at a x) (is_at b y) at_a there)) e)
    | inr not_a ↦
        let there : is_at a y ≡ true =
        at_slot a y (subst (λ z. (((cond z b a).day == y.day) && ((cond z b a).period == y.period)) ≡ true) not_a same) in
        let at_b : is_at b x ≡ true = sym (ap (λ z. z || is_at b x) not_a) ∙ within in
        no_link (and_from ((is_at a x && is_at b y) || (is_at b x && is_at a y)) (exclude p x y)
        (or_right (is_at a x && is_at b y) (is_at b x && is_at a y) (and_from (is_at b x) (is_at a y) at_b there)) e)
  ]

  -- two moved members that share a period shared one before
  both_turned : (x y : Cell) → (is_at a x || is_at b x) ≡ true → (is_at a y || is_at b y) ≡ true
      → same_period (turned a b x) (turned a b y) ≡ true → same_period x y ≡ true
  both_turned x y wx wy same = elim (cases_Bool (is_at a x)) [
    | inl ax ↦ elim (cases_Bool (is_at a y)) [
      | inl ay ↦ same_at a x y ax ay
      | inr ny ↦
          let s = subst (λ z. (((cond z b a).day == (other a b y).day) && ((cond z b a).period == (other a b y).period)) ≡ true) ax same in
          let r : ((b.day == a.day) && (b.period == a.period)) ≡ true =
          subst (λ z. ((b.day == (cond z b a).day) && (b.period == (cond z b a).period)) ≡ true) ny s in
          absurd (not_one r)
    ]
    | inr nx ↦ elim (cases_Bool (is_at a y)) [
      | inl ay ↦
          let s = subst (λ z. (((cond z b a).day == (other a b y).day) && ((cond z b a).period == (other a b y).period)) ≡ true) nx same in
          let r : ((a.day == b.day) && (a.period == b.period)) ≡ true =
          subst (λ z. ((a.day == (cond z b a).day) && (a.period == (cond z b a).period)) ≡ true) ay s in
          absurd (both_ways ((a.day == b.day) && (a.period == b.period)) apart r)
      | inr ny ↦ same_at b x y (sym (ap (λ z. z || is_at b x) nx) ∙ wx) (sym (ap (λ z. z || is_at b y) ny) ∙ wy)
    ]
  ]
    where
      not_one : ((b.day == a.day) && (b.period == a.period)) ≡ true → ⊥
      not_one e =
          let h = and_parts (b.day == a.day) (b.period == a.period) e in
          both_ways ((a.day == b.day) && (a.period == b.period)) apart
          (and_from (a.day == b.day) (a.period == b.period) (eqb-turn b.day a.day h.0) (eqb-turn b.period a.period h.1))

  apart_still : (x y : Cell) (mx my : Bool) → (mx ≡ true → (is_at a x || is_at b x) ≡ true)
      → (my ≡ true → (is_at a y || is_at b y) ≡ true) → (mx ≡ true → linked p a b x y ≡ true → my ≡ true)
      → (my ≡ true → linked p a b y x ≡ true → mx ≡ true) → (same_period x y ≡ true → exclude p x y ≡ true → ⊥)
      → same_period (moved a b mx x) (moved a b my y) ≡ true → exclude p (moved a b mx x) (moved a b my y) ≡ true → ⊥
  apart_still x y false false wx wy lx ly before same e = before same e
  apart_still x y true true wx wy lx ly before same e = before (both_turned x y (wx refl) (wy refl) same) e
  apart_still x y true false wx wy lx ly before same e = one_turned x y (wx refl) (λ l. both_ways false refl (lx refl l)) same e
  apart_still x y false true wx wy lx ly before same e =
      let h = and_parts (x.day == (other a b y).day) (x.period == (other a b y).period) same in
      one_turned y x (wy refl) (λ l. both_ways false refl (ly refl l))
      (and_from ((other a b y).day == x.day) ((other a b y).period == x.period) (eqb-turn x.day (other a b y).day h.0)
      (eqb-turn x.period (other a b y).period h.1)) (exclude-turn p x y e)

-- ---- the list

pub length-swapped : (a b : Slot) (m : ℕ → Bool) (k : ℕ) (t : List Cell) → length (swapped_from a b m k t) ≡ length t
length-swapped a b m k [] = refl
length-swapped a b m k (x ∷ xs) = ap suc (length-swapped a b m (k + 1) xs)

pub get_or-swapped : (a b : Slot) (m : ℕ → Bool) (k : ℕ) (t : List Cell) (i : ℕ) (d : Cell) → i < length t
    → get_or (swapped_from a b m k t) i d ≡ moved a b (m (k + i)) (get_or t i d)
get_or-swapped a b m k [] i d h = absurd (omega arith)
get_or-swapped a b m k (x ∷ xs) zero d h = let z : k ≡ k + 0 = omega arith in ap (λ n. moved a b (m n) x) z
get_or-swapped a b m k (x ∷ xs) (suc i) d h =
    let z : (k + 1) + i ≡ k + suc i = omega arith in
    get_or-swapped a b m (k + 1) xs i d (le_of_suc-le-suc h) ∙ ap (λ n. moved a b (m n) (get_or xs i d)) z

pub entries-swapped : (a b : Slot) (m : ℕ → Bool) (k c : ℕ) (t : List Cell) → entries_of (swapped_from a b m k t) c ≡ entries_of t c
entries-swapped a b m k c [] = refl
entries-swapped a b m k c (x ∷ xs) =
    let rest = entries-swapped a b m (k + 1) c xs in
    let one = same_course (m k) in
    omega (arith, count_by-cons (is_of c) (moved a b (m k) x) (swapped_from a b m (k + 1) xs), count_by-cons (is_of c) x xs)
  where
    same_course : (z : Bool) → one_if (is_of c (moved a b z x)) ≡ one_if (is_of c x)
    same_course true = refl
    same_course false = refl

module _ (p : Problem) (t : List Cell) (a b : Slot) (m : ℕ → Bool) (apart : ((a.day == b.day) && (a.period == b.period)) ≡ false)
    (a_day : a.day < p.days) (a_period : a.period < p.periods) (b_day : b.day < p.days) (b_period : b.period < p.periods)
    (ok : IsFeasible p t) (closed : IsClosed p t a b m) where
  moved_in_range : (e : Cell) (z : Bool) → InRange p e → InRange p (moved a b z e)
  moved_in_range e false r = r
  moved_in_range e true r = record { course = r.course; room = r.room; day = by_test (is_at a e); period = by_test_2 (is_at a e) }
    where
      by_test : (z : Bool) → (cond z b a).day < p.days
      by_test true = b_day
      by_test false = a_day

      by_test_2 : (z : Bool) → (cond z b a).period < p.periods
      by_test_2 true = b_period
      by_test_2 false = a_period

  at_place : (i : ℕ) (d : Cell) → i < length t → get_or (swapped a b m t) i d ≡ moved a b (m i) (get_or t i d)
  at_place i d h = let z : 0 + i ≡ i = omega arith in subst (λ n. get_or (swapped a b m t) i d ≡ moved a b (m n) (get_or t i d)) z
      (get_or-swapped a b m 0 t i d h)

  in_t : (i : ℕ) → i < length (swapped a b m t) → i < length t
  in_t i h = subst (λ n. i < n) (length-swapped a b m 0 t) h

  pub chain_in_range : IsTimetable p (swapped a b m t)
  chain_in_range i d h = subst (InRange p) (sym (at_place i d (in_t i h)))
      (moved_in_range (get_or t i d) (m i) (ok.timetable i d (in_t i h)))

  pub chain_free : IsFree p (swapped a b m t)
  chain_free i j d h k ne same e =
      let hi = in_t i h in
      let hj = in_t j k in
      let x = get_or t i d in
      let y = get_or t j d in
      let ei = at_place i d hi in
      let ej = at_place j d hj in
      apart_still p a b apart x y (m i) (m j) (closed.within i d hi) (closed.within j d hj) (closed.links i j d hi hj)
      (closed.links j i d hj hi) (free_from_feasible p t ok i j d hi hj ne)
      (subst (λ z. same_period (moved a b (m i) x) z ≡ true) ej (subst (λ z. same_period z (get_or (swapped a b m t) j d) ≡ true) ei same))
      (subst (λ z. exclude p (moved a b (m i) x) z ≡ true) ej (subst (λ z. exclude p z (get_or (swapped a b m t) j d) ≡ true) ei e))

  open_at : (e : Cell) (z : Bool) → (z ≡ true → unavailable p e.course (other a b e).day (other a b e).period ≡ false)
      → unavailable p e.course e.day e.period ≡ false → unavailable p (moved a b z e).course (moved a b z e).day (moved a b z e).period
      ≡ false
  open_at e true granted before = granted refl
  open_at e false granted before = before

  pub chain_available : IsOpen p t a b m → availability_count p (swapped a b m t) ≡ 0
  chain_available is_open = none_counted (λ e. unavailable p e.course e.day e.period) (swapped a b m t) (λ x member e.
      let i = member.0 in
      let h = in_t i member.1 in
      let was = available p t ok (get_or t i x) (Contains-get_or t i x h) in
      let now = open_at (get_or t i x) (m i) (is_open i x h) was in
      let q = λ (z : Cell). unavailable p z.course z.day z.period in
      let here : q x ≡ false = subst (λ z. q z ≡ false) (sym (at_place i x h) ∙ member.2) now in
      both_ways (q x) here e)

  pub chain_feasible : IsOpen p t a b m → IsFeasible p (swapped a b m t)
  chain_feasible is_open =
      feasible_from_free p (swapped a b m t) chain_in_range chain_free (λ c. entries-swapped a b m 0 c t ∙ lectures_met p t ok c)
      (chain_available is_open)

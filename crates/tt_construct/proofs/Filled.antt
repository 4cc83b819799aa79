-- Timetables that are filled course by course.
use Rattle.std.proofs.Common.{◌≡◌, ℕ, ◌+◌, ◌<◌, ◌≤◌, Bool, true, false, cond, List, [], ◌∷◌, ◌++◌, length, take, refl, sym, ap, subst, arith, inl, inr, length-append, eq-eqb, ne_eqb}
use Rattle.std.specs.Prelude.{◌==◌}
use Rattle.std.proofs.lemmas.Bool.{cases_eq}
use Rattle.std.proofs.lemmas.List.Sums.{sum_by-append, sum_by_more, sum_by_more_le}
use Rattle.std.proofs.lemmas.List.Elements.{All-append, All-cons, All-nil}
use Rattle.tt_instance.specs.Problem.{Problem, Course}
use Rattle.tt_instance.specs.Cells.{InRange, is_of}
use Rattle.tt_instance.specs.Courses.{no_course, lectures}
use Rattle.tt_instance.specs.Limits.{IsInstance}
use Rattle.tt_instance.specs.Columns.{lectures_of}
use Rattle.tt_instance.specs.declared.cell.Cell.{Cell}
use Rattle.tt_list_laws.proofs.Sums.{one_if, count_by-cons}
use Rattle.tt_table.specs.Table.{IsTimetable}
use Rattle.tt_rules.specs.Hard.{entries_of}
use Rattle.tt_construct.specs.Constructed.{IsConstructed}
use Rattle.tt_construct.specs.Inner.Filled.{HasMore}

-- ---- one course

-- the case of no new entry
pub none_more : (p : Problem) (c : ℕ) (t : List Cell) → HasMore p c 0 t t
none_more p c t = record { in_range = λ h. h; size = omega arith; counts = λ k. by_test (c == k) (entries_of t k) }
  where
    by_test : (b : Bool) (n : ℕ) → n ≡ n + cond b 0 0
    by_test true n = omega arith
    by_test false n = omega arith

-- the case of another entry
pub one_more : (p : Problem) (c n : ℕ) (old t u : List Cell) (e : Cell) → HasMore p c n old t → InRange p e → e.course ≡ c
    → u ≡ t ++ e ∷ [] → HasMore p c (n + 1) old u
one_more p c n old t u e more inside of_course is = subst (HasMore p c (n + 1) old) (sym is) (record {
  in_range = λ h. All-append (InRange p) t (e ∷ []) (more.in_range h) (All-cons (InRange p) e [] inside (All-nil (InRange p)));
  size = omega (arith, more.size, length-append t (e ∷ []));
  counts = λ k. counted k;
})
  where
    added : (k : ℕ) (b : Bool) → (c == k) ≡ b → cond (c == k) n 0 + one_if (e.course == k) ≡ cond (c == k) (n + 1) 0
    added k true h = rw (of_course, h) refl
    added k false h = rw (of_course, h) refl

    counted : (k : ℕ) → entries_of (t ++ e ∷ []) k ≡ entries_of old k + cond (c == k) (n + 1) 0
    counted k =
        let whole = sum_by-append (λ x. one_if (is_of k x)) t (e ∷ []) in
        let last = count_by-cons (is_of k) e [] in
        omega (arith, whole, last, more.counts k, added k (c == k) refl)

-- ---- course by course

-- the lectures of the first n courses are placed, and no others
pub record IsFilledTo (p : Problem) (n : ℕ) (t : List Cell) : Type 0 where
  pub in_range : IsTimetable p t
  pub size : length t ≡ lectures_of (take n p.courses)
  pub placed : (c : ℕ) → c < n → entries_of t c ≡ lectures p c
  pub others : (c : ℕ) → n ≤ c → entries_of t c ≡ 0

pub filled_none : (p : Problem) → IsFilledTo p 0 []
filled_none p = record { in_range = All-nil (InRange p); size = refl; placed = λ c h. absurd (omega arith); others = λ c h. refl }

-- there is room for the lectures of the next course
pub few_more : (p : Problem) (n : ℕ) (t : List Cell) → IsInstance p → IsFilledTo p n t → n < length p.courses
    → length t + lectures p n ≤ 4096
few_more p n t ok filled h = omega (
  arith,
  filled.size,
  sum_by_more_le (λ (c : Course). c.lectures) p.courses n no_course h,
  ok.within.lectures,
)

pub filled_more : (p : Problem) (n : ℕ) (t u : List Cell) → IsFilledTo p n t → n < length p.courses → HasMore p n (lectures p n) t u
    → IsFilledTo p (n + 1) u
filled_more p n t u filled h more = record {
  in_range = more.in_range filled.in_range;
  size = omega (arith, more.size, filled.size, sum_by_more (λ (c : Course). c.lectures) p.courses n no_course h);
  placed = λ c l. elim (cases_eq n c) [ inl e ↦ here c e | inr e ↦ before c e (omega arith) ];
  others = λ c l. let e = ne_eqb n c (λ e. omega arith) in let k = rw e at (more.counts c) in
      omega (arith, k, filled.others c (omega arith));
}
  where
    here : (c : ℕ) → n ≡ c → entries_of u c ≡ lectures p c
    here c e =
        let test = eq-eqb n c e in
        let k = rw test at (more.counts c) in
        let same : lectures p n ≡ lectures p c = ap (lectures p) e in
        omega (arith, k, filled.others c (omega arith), same)

    before : (c : ℕ) → (n ≡ c → ⊥) → c < n → entries_of u c ≡ lectures p c
    before c e l =
        let test = ne_eqb n c e in
        let k = rw test at (more.counts c) in
        omega (arith, k, filled.placed c l)

pub filled_all : (p : Problem) (t : List Cell) → 0 < length p.rooms → IsFilledTo p (length p.courses) t → IsConstructed p t
filled_all p t rooms filled = record {
  in_range = filled.in_range;
  lectures_placed = λ some c h. filled.placed c h;
  without_rooms = λ none. absurd (omega (arith, ap length none));
}

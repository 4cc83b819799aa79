-- The state after a course was added to a slot or removed from one.
use Rattle.std.proofs.Common.{◌≡◌, ℕ, ◌+◌, ◌-◌, ◌^◌, ◌<◌, Bool, true, false, not, cond, ◌&&◌, ◌||◌, List, [], length, get_or, set, refl, sym, ap, ◌∙◌, subst, inl, inr, arith, eq-eqb, ne_eqb, eqb-true}
use Rattle.std.specs.Prelude.{◌==◌, nat_le}
use Rattle.std.proofs.Math.Bool.{or-false, or-true}
use Rattle.std.proofs.lemmas.Bool.{and_left, and_parts, and_right, both_ways, cases_Bool, cases_eq, cases_lt, lt-leb}
use Rattle.std.proofs.lemmas.List.{get_or_past, get_or_read, get_or-set_same, get_or-set_other, length-set}
use Rattle.tt_list_laws.proofs.Sums.{one_if}
use Rattle.tt_instance.specs.Problem.{Problem}
use Rattle.tt_plans_slots.specs.Levels.{level}
use Rattle.tt_plans_slots.specs.Teaching.{Teaching, slot_count, taught, spare, taught_up_to, most, CanBeTaught, HasSpare, AddsCourse, RemovesCourse, KeepsMost, RaisesMost}
use Rattle.tt_plans_slots.specs.Inner.States.{teaching, AreLevels, IsShaped, IsTeaching}
use Rattle.tt_plans_slots.proofs.Counted.{count_at_most, count_grown_if, raised}
use Rattle.tt_plans_slots.proofs.Kept.{kept_with, kept_without}
use Rattle.tt_plans_slots.proofs.Written.{cond-and_not, cond-or, place_written, row_written}

-- a course that is taught is one of the instance, in a slot of the week
pub in_range : (v : Teaching) → IsShaped v → (s c : ℕ) → taught v s c ≡ true → (s < slot_count v.problem) × (c < length v.problem.courses)
in_range v shaped s c e = elim (cases_lt s (slot_count v.problem)) [
  | inl h ↦ elim (cases_lt c (length v.problem.courses)) [
    | inl k ↦ (h, k)
    | inr past ↦
        let len = shaped.courses s h in
        absurd (both_ways (taught v s c) (get_or_past (get_or v.rows s []) c false (omega (arith, len, past))) e)
  ]
  | inr past ↦
      let len = shaped.rows in
      let none : get_or v.rows s [] ≡ [] = get_or_past v.rows s [] (omega (arith, len, past)) in
      absurd (both_ways (taught v s c) (ap (λ (r : List Bool). get_or r c false) none) e)
]

-- the level of a course, as it was read
pub level_read : (p : Problem) (levels : List ℕ) (c l : ℕ) → AreLevels p levels → c < length p.courses → l ≡ get_or levels c l
    → l ≡ level p c
level_read p levels c l are h is =
    let len = are.len in
    get_or_read levels c l (omega (arith, len, h)) is 0 ∙ are.each c h

-- ---- a slot whose tables change

-- the slot's row has x at the course's place, and its spare is a line of the same length
pub record IsWritten (rows : List (List Bool)) (spares : List (List ℕ)) (c s : ℕ) (x : Bool) (row : List Bool)
    (line : List ℕ) : Type 0 where
  pub row_is : row ≡ set (get_or rows s []) c x
  pub len : length line ≡ length (get_or spares s [])

module _ (p : Problem) (rows : List (List Bool)) (spares : List (List ℕ)) (c s : ℕ) (x : Bool) (row : List Bool) (line : List ℕ)
    (shaped : IsShaped (teaching p rows spares)) (in_courses : c < length p.courses) (in_slots : s < slot_count p)
    (is : IsWritten rows spares c s x row line) where
  abbrev old : Teaching
  old = teaching p rows spares

  abbrev new : Teaching
  new = teaching p (set rows s row) (set spares s line)

  slot_there : s < length rows
  slot_there = let len = shaped.rows in omega (arith, len, in_slots)

  spare_there : s < length spares
  spare_there = let len = shaped.spares in omega (arith, len, in_slots)

  course_there : c < length (get_or rows s [])
  course_there = let len = shaped.courses s in_slots in omega (arith, len, in_courses)

  taught_new : (t d : ℕ) → taught new t d ≡ cond ((t == s) && (d == c)) x (taught old t d)
  taught_new = place_written rows s c x false row slot_there course_there is.row_is

  spare_new : (t k : ℕ) → spare new t k ≡ cond (t == s) (get_or line k 0) (spare old t k)
  spare_new t k = ap (λ (r : List ℕ). get_or r k 0) (row_written spares s line [] spare_there t) ∙ by_test (t == s)
    where
      by_test : (b : Bool) → get_or (cond b line (get_or spares t [])) k 0 ≡ cond b (get_or line k 0) (spare old t k)
      by_test true = refl
      by_test false = refl

  -- what a change does to the line at a level it does to the spare of the slot, and to that of no other
  spare_changed : (f : ℕ → Bool → ℕ) → ((n : ℕ) → f n false ≡ n) → (k : ℕ) (b : Bool)
      → get_or line k 0 ≡ f (get_or (get_or spares s []) k 0) b → (t : ℕ) → spare new t k ≡ f (spare old t k) ((t == s) && b)
  spare_changed f none k b here t = elim (cases_eq t s) [
    | inl e ↦
        let same = eq-eqb t s e in
        let line_new = rw same at (spare_new t k) in
        rw same (line_new ∙ here ∙ ap (λ i. f (get_or (get_or spares i []) k 0) b) (sym e))
    | inr n ↦
        let apart = ne_eqb t s n in
        let line_new = rw apart at (spare_new t k) in
        rw apart (line_new ∙ sym (none (spare old t k)))
  ]

  shaped_new : IsShaped new
  shaped_new = record {
    rows = length-set rows s row ∙ shaped.rows;
    spares = length-set spares s line ∙ shaped.spares;
    courses = λ t h. elim (cases_eq t s) [
      | inl e ↦
          ap (λ i. length (get_or (set rows s row) i [])) e ∙ ap length (get_or-set_same rows s row [] slot_there ∙ is.row_is)
          ∙ length-set (get_or rows s []) c x ∙ shaped.courses s in_slots
      | inr n ↦ ap length (get_or-set_other rows s t row [] n) ∙ shaped.courses t h
    ];
    levels = λ t h. elim (cases_eq t s) [
      | inl e ↦
          ap (λ i. length (get_or (set spares s line) i [])) e ∙ ap length (get_or-set_same spares s line [] spare_there)
          ∙ is.len ∙ shaped.levels s in_slots
      | inr n ↦ ap length (get_or-set_other spares s t line [] n) ∙ shaped.levels t h
    ];
  }

-- -- a course is added

-- the row and the line of the slot once a course was added
pub record IsAdded (p : Problem) (rows : List (List Bool)) (spares : List (List ℕ)) (c s : ℕ) (row : List Bool)
    (line : List ℕ) : Type 0 where
  pub state : IsTeaching (teaching p rows spares)
  pub can : CanBeTaught (teaching p rows spares) c s
  pub written : IsWritten rows spares c s true row line
  pub taken : (k : ℕ) → get_or line k 0 ≡ get_or (get_or spares s []) k 0 - one_if (nat_le (level p c) k)

-- from what was read and written
pub added_from : (p : Problem) (rows : List (List Bool)) (spares : List (List ℕ)) (c s l : ℕ) (at row : List Bool) (on line : List ℕ)
    → IsTeaching (teaching p rows spares) → CanBeTaught (teaching p rows spares) c s → l ≡ level p c
    → at ≡ get_or rows s at → row ≡ set at c true → on ≡ get_or spares s on → length line ≡ length on
    → ((k : ℕ) → get_or line k 0 ≡ get_or on k 0 - one_if (nat_le l k)) → IsAdded p rows spares c s row line
added_from p rows spares c s l at row on line state can lev at_is row_is on_is len taken =
    let rows_len = state.shaped.rows in
    let spares_len = state.shaped.spares in
    let slot = can.slot in
    let at_s : at ≡ get_or rows s [] = get_or_read rows s at (omega (arith, rows_len, slot)) at_is [] in
    let on_s : on ≡ get_or spares s [] = get_or_read spares s on (omega (arith, spares_len, slot)) on_is [] in
    record {
      state = state;
      can = can;
      written = record { row_is = row_is ∙ ap (λ r. set r c true) at_s; len = len ∙ ap length on_s };
      taken = λ k. taken k ∙ ap (λ r. get_or r k 0 - one_if (nat_le l k)) on_s
          ∙ ap (λ i. get_or (get_or spares s []) k 0 - one_if (nat_le i k)) lev;
    }

module _ (p : Problem) (rows : List (List Bool)) (spares : List (List ℕ)) (c s : ℕ) (row : List Bool) (line : List ℕ)
    (is : IsAdded p rows spares c s row line) where
  abbrev before : Teaching
  before = teaching p rows spares

  abbrev after : Teaching
  after = teaching p (set rows s row) (set spares s line)

  pub adds : AddsCourse before after c s
  adds t d =
      taught_new p rows spares c s true row line is.state.shaped is.can.course is.can.slot is.written t d
      ∙ cond-or ((t == s) && (d == c)) (taught before t d)

  -- the slot is this one, and the level is not below the course's
  abbrev is_raised : ℕ → ℕ → Bool
  is_raised t k = (t == s) && nat_le (level p c) k

  count_added : (t k : ℕ) → taught_up_to after t k ≡ taught_up_to before t k + one_if (is_raised t k)
  count_added t k =
      count_grown_if (taught before t) (taught after t) (λ d. nat_le (level p d) k) (length p.courses) c (t == s) is.can.course
      (λ e. ap (λ i. taught before i c) (eqb-true t s e) ∙ is.can.absent) (adds t)

  spare_taken : (t k : ℕ) → spare after t k ≡ spare before t k - one_if (is_raised t k)
  spare_taken t k =
      spare_changed p rows spares c s true row line is.state.shaped is.can.course is.can.slot is.written (λ n b. n - one_if b)
      (λ n. omega arith) k (nat_le (level p c) k) (is.taken k) t

  pub raises : RaisesMost before after c s
  raises t k h =
      ap (λ n. n + spare after t k) (count_added t k)
      ∙ ap (λ n. (taught_up_to before t k + one_if (is_raised t k)) + n) (spare_taken t k)
      ∙ raised (is_raised t k) (taught_up_to before t k) (spare before t k)

  fits_added : (t k : ℕ) → k < length p.rooms → most after t k < 2 ^ 31
  fits_added t k h = elim (cases_eq (spare before t k) 0) [
    | inl e ↦
        let count = count_at_most (λ d. taught after t d && nat_le (level p d) k) (length p.courses) in
        let none = spare_taken t k in
        let few = is.state.few in
        omega (arith, count, none, few, e)
    | inr some ↦
        let same : one_if (is_raised t k && (spare before t k == 0)) ≡ 0 =
        ap one_if (and_right (is_raised t k) (spare before t k == 0) (ne_eqb (spare before t k) 0 some)) in
        let fits = is.state.fits t k h in
        let sum = raises t k h in
        omega (arith, sum, same, fits)
  ]

  pub still_with : IsTeaching after
  still_with = record {
    shaped = shaped_new p rows spares c s true row line is.state.shaped is.can.course is.can.slot is.written;
    kept = kept_with p (taught before) (taught after) c s is.state.kept is.can.apart is.can.available adds;
    few = is.state.few;
    fits = fits_added;
  }

-- -- a course is removed

-- the row and the line of the slot once a course was removed
pub record IsRemoved (p : Problem) (rows : List (List Bool)) (spares : List (List ℕ)) (c s : ℕ) (row : List Bool)
    (line : List ℕ) : Type 0 where
  pub state : IsTeaching (teaching p rows spares)
  pub there : taught (teaching p rows spares) s c ≡ true
  pub written : IsWritten rows spares c s false row line
  pub given : (k : ℕ) → k < length p.rooms → get_or line k 0 ≡ get_or (get_or spares s []) k 0 + one_if (nat_le (level p c) k)

-- from what was read and written
pub removed_from : (p : Problem) (rows : List (List Bool)) (spares : List (List ℕ)) (c s l : ℕ) (at row : List Bool) (on line : List ℕ)
    → IsTeaching (teaching p rows spares) → taught (teaching p rows spares) s c ≡ true → l ≡ level p c
    → at ≡ get_or rows s at → row ≡ set at c false → on ≡ get_or spares s on → length line ≡ length on
    → ((k : ℕ) → k < length on → get_or line k 0 ≡ get_or on k 0 + one_if (nat_le l k)) → IsRemoved p rows spares c s row line
removed_from p rows spares c s l at row on line state there lev at_is row_is on_is len given =
    let rows_len = state.shaped.rows in
    let spares_len = state.shaped.spares in
    let slot = (in_range (teaching p rows spares) state.shaped s c there).0 in
    let at_s : at ≡ get_or rows s [] = get_or_read rows s at (omega (arith, rows_len, slot)) at_is [] in
    let on_s : on ≡ get_or spares s [] = get_or_read spares s on (omega (arith, spares_len, slot)) on_is [] in
    let long : length on ≡ length p.rooms = ap length on_s ∙ state.shaped.levels s slot in
    record {
      state = state;
      there = there;
      written = record { row_is = row_is ∙ ap (λ r. set r c false) at_s; len = len ∙ ap length on_s };
      given = λ k h. given k (omega (arith, long, h)) ∙ ap (λ r. get_or r k 0 + one_if (nat_le l k)) on_s
          ∙ ap (λ i. get_or (get_or spares s []) k 0 + one_if (nat_le i k)) lev;
    }

module _ (p : Problem) (rows : List (List Bool)) (spares : List (List ℕ)) (c s : ℕ) (row : List Bool) (line : List ℕ)
    (is : IsRemoved p rows spares c s row line) where
  abbrev whole : Teaching
  whole = teaching p rows spares

  abbrev rest : Teaching
  rest = teaching p (set rows s row) (set spares s line)

  range : (s < slot_count p) × (c < length p.courses)
  range = in_range whole is.state.shaped s c is.there

  taught_rest : (t d : ℕ) → taught rest t d ≡ cond ((t == s) && (d == c)) false (taught whole t d)
  taught_rest = taught_new p rows spares c s false row line is.state.shaped range.1 range.0 is.written

  pub removes : RemovesCourse whole rest c s
  removes t d = taught_rest t d ∙ cond-and_not ((t == s) && (d == c)) (taught whole t d)

  absent : taught rest s c ≡ false
  absent =
      taught_rest s c ∙ ap (λ b. cond (b && (c == c)) false (taught whole s c)) (eq-eqb s s refl)
      ∙ ap (λ b. cond b false (taught whole s c)) (eq-eqb c c refl)

  -- the course and the others make up what was taught
  restored : (t d : ℕ) → taught whole t d ≡ (taught rest t d || ((t == s) && (d == c)))
  restored t d = elim (cases_Bool ((t == s) && (d == c))) [
    | inl e ↦
        let both = and_parts (t == s) (d == c) e in
        ap (λ i. taught whole i d) (eqb-true t s both.0) ∙ ap (taught whole s) (eqb-true d c both.1) ∙ is.there
        ∙ sym (ap (λ b. taught rest t d || b) e ∙ or-true (taught rest t d))
    | inr e ↦
        sym (ap (λ b. taught rest t d || b) e ∙ or-false (taught rest t d) ∙ taught_rest t d ∙ ap (λ b. cond b false (taught whole t d)) e)
  ]

  abbrev is_lowered : ℕ → ℕ → Bool
  is_lowered t k = (t == s) && nat_le (level p c) k

  count_removed : (t k : ℕ) → taught_up_to whole t k ≡ taught_up_to rest t k + one_if (is_lowered t k)
  count_removed t k =
      count_grown_if (taught rest t) (taught whole t) (λ d. nat_le (level p d) k) (length p.courses) c (t == s) range.1
      (λ e. ap (λ i. taught rest i c) (eqb-true t s e) ∙ absent) (restored t)

  spare_given : (t k : ℕ) → k < length p.rooms → spare rest t k ≡ spare whole t k + one_if (is_lowered t k)
  spare_given t k h =
      spare_changed p rows spares c s false row line is.state.shaped range.1 range.0 is.written (λ n b. n + one_if b) (λ n. omega arith)
      k (nat_le (level p c) k) (is.given k h) t

  pub keeps_most : KeepsMost whole rest
  keeps_most t k h =
      let count = count_removed t k in
      let given = spare_given t k h in
      omega (arith, count, given)

  pub still_without : IsTeaching rest
  still_without = record {
    shaped = shaped_new p rows spares c s false row line is.state.shaped range.1 range.0 is.written;
    kept = kept_without p (taught whole) (taught rest) is.state.kept
        (λ t d e. (and_parts (taught whole t d) (not ((t == s) && (d == c))) (sym (removes t d) ∙ e)).0);
    few = is.state.few;
    fits = λ t k h.
        let same = keeps_most t k h in
        let fits = is.state.fits t k h in
        omega (arith, same, fits);
  }

-- -- what a slot may take

-- each number of the line of a slot in which a course is taught may grow by one
pub line_fits : (p : Problem) (rows : List (List Bool)) (spares : List (List ℕ)) (c s : ℕ) (on : List ℕ)
    → IsTeaching (teaching p rows spares) → taught (teaching p rows spares) s c ≡ true → on ≡ get_or spares s on → (k : ℕ) → k < length on
    → get_or on k 0 + 1 < 2 ^ 32
line_fits p rows spares c s on state there on_is k h =
    let spares_len = state.shaped.spares in
    let slot = (in_range (teaching p rows spares) state.shaped s c there).0 in
    let on_s : on ≡ get_or spares s [] = get_or_read spares s on (omega (arith, spares_len, slot)) on_is [] in
    let long : length on ≡ length p.rooms = ap length on_s ∙ state.shaped.levels s slot in
    let same : get_or on k 0 ≡ spare (teaching p rows spares) s k = ap (λ r. get_or r k 0) on_s in
    let fits = state.fits s k (omega (arith, long, h)) in
    omega (arith, same, fits)

-- what a slot may take is as before if it had spare
module _ (old new : Teaching) (c s : ℕ) (some : HasSpare old c s) (raised_so : RaisesMost old new c s) where
  none_raised : (t k : ℕ) → k < length old.problem.rooms → ((t == s) && nat_le (level old.problem c) k && (spare old t k == 0)) ≡ false
  none_raised t k h =
      let here = t == s in
      let up = nat_le (level old.problem c) k in
      elim (cases_eq t s) [
        | inl e ↦ elim (cases_lt k (level old.problem c)) [
          | inl lt ↦ and_left (here && up) (spare old t k == 0) (and_right here up (lt-leb (level old.problem c) k lt))
          | inr le ↦
              let there : 0 < spare old t k = subst (λ i. 0 < spare old i k) (sym e) (some k le h) in
              and_right (here && up) (spare old t k == 0) (ne_eqb (spare old t k) 0 (λ z. omega (arith, there, z)))
        ]
        | inr n ↦ and_left (here && up) (spare old t k == 0) (and_left here up (ne_eqb t s n))
      ]

  pub keeps-raised : KeepsMost old new
  keeps-raised t k h =
      let sum = raised_so t k h in
      let none = ap one_if (none_raised t k h) in
      omega (arith, sum, none)

-- Wishes that a timetable keeps, and their facts.
use Rattle.std.proofs.Common.{◌≡◌, ℕ, ◌+◌, true, false, Bool, not, ◌&&◌, ◌||◌, List, [], ◌∷◌, ◌++◌, map, length, refl, sym, subst, ◌∙◌, arith, eqb-true, eq-eqb}
use Rattle.std.specs.Prelude.{◌==◌, Contains, filter, flat_map}
use Rattle.std.specs.List.{list_any, list_all, AllByRecursion}
use Rattle.std.proofs.lemmas.Bool.{both_ways, and_parts, and_from, not-true, not_from_false, not_from_true, false_from_ne_true, true_from_ne_false}
use Rattle.std.proofs.lemmas.List.Elements.{All-nil, All-cons, All-head, All-tail, All-append, All-contains, All-from_recursion, recursion_from_All}
use Rattle.tt_list_laws.specs.Words.{has_number}
use Rattle.tt_list_laws.proofs.Filters.{list_all-of_filter}
use Rattle.tt_list_laws.proofs.Members.{at_member, each_member, any_member, member_from_any, each_of_append}
use Rattle.tt_list_laws.proofs.Range.{all_below, at_below}
use Rattle.tt_list_laws.proofs.Sums.{one_if, one_if_false, count_by-cons, each_from_list_all}
use Rattle.tt_list_laws.proofs.Tested.{list_any-same}
use Rattle.tt_list_laws.proofs.Truth.{wanted, not_wanted}
use Rattle.tt_instance.specs.Problem.{Problem}
use Rattle.tt_instance.specs.Cells.{InRange, is_of, all_courses, all_rooms}
use Rattle.tt_instance.specs.declared.cell.Cell.{Cell}
use Rattle.tt_table.specs.Table.{IsTimetable}
use Rattle.tt_path.specs.Facts.{agrees, matches, Holds, Fits}
use Rattle.tt_path.specs.declared.facts.Pattern.{Pattern}
use Rattle.tt_path.proofs.Matching.{Matches-from}
use Rattle.tt_wishes.specs.Facts.{pattern_at, pattern_in, some_entry, no_entry, facts_of, facts_of_all}
use Rattle.tt_wishes.specs.Wishes.{is_there, is_held, is_only_in, is_empty, is_kept, broken_wishes}
use Rattle.tt_wishes.specs.declared.wish.Place.{Place}
use Rattle.tt_wishes.specs.declared.wish.Wish.{Wish}
use Rattle.tt_wishes.specs.declared.wish.Wish.TheVariants.{Hold, Rooms, Closed}

-- the first of four tests by itself
grouped : (a b c d : Bool) → (a && b && c && d) ≡ (a && (b && c && d))
grouped true b c d = refl
grouped false b c d = refl

all_pass : {X : Type 0} (test : X → Bool) (xs : List X) → AllByRecursion (λ x. test x ≡ true) xs → list_all test xs ≡ true
all_pass test [] a = refl
all_pass test (x ∷ xs) a = and_from (test x) (list_all test xs) a.0 (all_pass test xs a.1)

-- if each member of a list passes a test, the test of all passes
each_passes : {X : Type 0} (test : X → Bool) (xs : List X) → ((x : X) → Contains xs x → test x ≡ true) → list_all test xs ≡ true
each_passes test xs f = all_pass test xs (each_member (λ x. test x ≡ true) xs f)

module _ (p : Problem) (t : List Cell) where
  -- -- facts that no entry matches a pattern

  none_fit : (h : ℕ → Pattern) (ks : List ℕ) → list_all (λ k. not (list_any (matches p (h k)) t)) ks ≡ true
      → Fits p t (map (λ k. no_entry (h k)) ks)
  none_fit h [] e = All-nil (Holds p t)
  none_fit h (k ∷ ks) e =
      let a = and_parts (not (list_any (matches p (h k)) t)) (list_all (λ j. not (list_any (matches p (h j)) t)) ks) e in
      All-cons (Holds p t) (no_entry (h k)) (map (λ j. no_entry (h j)) ks) (not-true (list_any (matches p (h k)) t) a.0)
      (none_fit h ks a.1)

  fit_none : (h : ℕ → Pattern) (ks : List ℕ) → Fits p t (map (λ k. no_entry (h k)) ks)
      → list_all (λ k. not (list_any (matches p (h k)) t)) ks ≡ true
  fit_none h [] f = refl
  fit_none h (k ∷ ks) f =
      and_from (not (list_any (matches p (h k)) t)) (list_all (λ j. not (list_any (matches p (h j)) t)) ks)
      (not_from_false (list_any (matches p (h k)) t) (All-head (Holds p t) (no_entry (h k)) (map (λ j. no_entry (h j)) ks) f))
      (fit_none h ks (All-tail (Holds p t) (no_entry (h k)) (map (λ j. no_entry (h j)) ks) f))

  -- -- a lecture that stays

  held_same : (c : ℕ) (g : Place) → list_any (matches p (pattern_at g c)) t ≡ is_held t c g
  held_same c g = list_any-same (matches p (pattern_at g c)) (λ e. is_of c e && is_there g e) t
      (λ e. grouped (is_of c e) (agrees g.room e.room) (agrees g.day e.day) (agrees g.period e.period))

  -- -- the rooms of a course

  matches_in : (c r : ℕ) (x : Cell) → is_of c x ≡ true → r ≡ x.room → matches p (pattern_in c r) x ≡ true
  matches_in c r x of same =
      and_from (is_of c x && (r == x.room) && true) true
      (and_from (is_of c x && (r == x.room)) true (and_from (is_of c x) (r == x.room) of (eq-eqb r x.room same)) refl) refl

  -- a course that is only in these rooms has no entry in another
  in_no_other : (c : ℕ) (rooms : List ℕ) (r : ℕ) → is_only_in t c rooms ≡ true → not (has_number rooms r) ≡ true
      → list_any (matches p (pattern_in c r)) t ≡ true → ⊥
  in_no_other c rooms r kept other any =
      let m = member_from_any (matches p (pattern_in c r)) t any in
      let g = Matches-from p (pattern_in c r) m.0 m.2 in
      let here = at_member (λ e. (not (is_of c e) || has_number rooms e.room) ≡ true) t m.0
      (each_from_list_all (λ e. not (is_of c e) || has_number rooms e.room) t kept) m.1 in
      let listed = wanted (is_of c m.0) (has_number rooms m.0.room) here g.who in
      let same : r ≡ m.0.room = eqb-true r m.0.room g.room in
      let yes : has_number rooms r ≡ true = subst (λ k. has_number rooms k ≡ true) (sym same) listed in
      both_ways (has_number rooms r) (not-true (has_number rooms r) other) yes

  only_fits : (c : ℕ) (rooms : List ℕ) → is_only_in t c rooms ≡ true → Fits p t (facts_of p (Rooms c rooms))
  only_fits c rooms kept =
      none_fit (pattern_in c) (filter (λ r. not (has_number rooms r)) (all_rooms p))
      (list_all-of_filter (λ r. not (list_any (matches p (pattern_in c r)) t)) (λ r. not (has_number rooms r)) (all_rooms p)
      ∙ all_below (λ r. not (not (has_number rooms r)) || not (list_any (matches p (pattern_in c r)) t)) (length p.rooms)
      (λ r l. not_wanted (not (has_number rooms r)) (not (list_any (matches p (pattern_in c r)) t))
      (λ other. not_from_false (list_any (matches p (pattern_in c r)) t)
      (false_from_ne_true (list_any (matches p (pattern_in c r)) t) (λ any. in_no_other c rooms r kept other any)))))

  -- an entry in another room breaks a fact
  entry_in_other : (c : ℕ) (rooms : List ℕ) (x : Cell)
      → list_all (λ r. not (not (has_number rooms r)) || not (list_any (matches p (pattern_in c r)) t)) (all_rooms p) ≡ true
      → InRange p x → Contains t x → is_of c x ≡ true → has_number rooms x.room ≡ false → ⊥
  entry_in_other c rooms x tests inside m of other =
      let at = at_below (λ r. not (not (has_number rooms r)) || not (list_any (matches p (pattern_in c r)) t)) (length p.rooms)
      x.room tests inside.room in
      let free = wanted (not (has_number rooms x.room)) (not (list_any (matches p (pattern_in c x.room)) t)) at
      (not_from_false (has_number rooms x.room) other) in
      let yes = any_member (matches p (pattern_in c x.room)) t x m (matches_in c x.room x of refl) in
      both_ways (list_any (matches p (pattern_in c x.room)) t) (not-true (list_any (matches p (pattern_in c x.room)) t) free) yes

  fits_only : (c : ℕ) (rooms : List ℕ) → IsTimetable p t → Fits p t (facts_of p (Rooms c rooms)) → is_only_in t c rooms ≡ true
  fits_only c rooms inside f =
      let tests = sym (list_all-of_filter (λ r. not (list_any (matches p (pattern_in c r)) t)) (λ r. not (has_number rooms r))
      (all_rooms p)) ∙ fit_none (pattern_in c) (filter (λ r. not (has_number rooms r)) (all_rooms p)) f in
      each_passes (λ e. not (is_of c e) || has_number rooms e.room) t
      (λ x m. not_wanted (is_of c x) (has_number rooms x.room)
      (λ of. true_from_ne_false (has_number rooms x.room)
      (λ other. entry_in_other c rooms x tests (All-contains (InRange p) t x inside m) m of other)))

  -- -- a place that stays empty

  -- if the place is empty, no course has an entry there
  no_course_there : (g : Place) (c : ℕ) → is_empty t g ≡ true → list_any (matches p (pattern_at g c)) t ≡ true → ⊥
  no_course_there g c kept any =
      let m = member_from_any (matches p (pattern_at g c)) t any in
      let here = Matches-from p (pattern_at g c) m.0 m.2 in
      let there : is_there g m.0 ≡ true =
      and_from (agrees g.room m.0.room && agrees g.day m.0.day) (agrees g.period m.0.period)
      (and_from (agrees g.room m.0.room) (agrees g.day m.0.day) here.room here.day) here.period in
      let yes = any_member (is_there g) t m.0 m.1 there in
      both_ways (list_any (is_there g) t) (not-true (list_any (is_there g) t) kept) yes

  empty_fits : (g : Place) → is_empty t g ≡ true → Fits p t (facts_of p (Closed g))
  empty_fits g kept =
      none_fit (pattern_at g) (all_courses p)
      (all_below (λ c. not (list_any (matches p (pattern_at g c)) t)) (length p.courses)
      (λ c l. not_from_false (list_any (matches p (pattern_at g c)) t)
      (false_from_ne_true (list_any (matches p (pattern_at g c)) t) (λ any. no_course_there g c kept any))))

  -- an entry there breaks a fact
  entry_there : (g : Place) → IsTimetable p t → list_all (λ c. not (list_any (matches p (pattern_at g c)) t)) (all_courses p) ≡ true
      → list_any (is_there g) t ≡ true → ⊥
  entry_there g inside tests any =
      let m = member_from_any (is_there g) t any in
      let x = m.0 in
      let range = All-contains (InRange p) t x inside m.1 in
      let at = at_below (λ c. not (list_any (matches p (pattern_at g c)) t)) (length p.courses) x.course tests range.course in
      let here : matches p (pattern_at g x.course) x ≡ true =
      grouped (is_of x.course x) (agrees g.room x.room) (agrees g.day x.day) (agrees g.period x.period)
      ∙ and_from (is_of x.course x) (is_there g x) (eq-eqb x.course x.course refl) m.2 in
      let yes = any_member (matches p (pattern_at g x.course)) t x m.1 here in
      both_ways (list_any (matches p (pattern_at g x.course)) t) (not-true (list_any (matches p (pattern_at g x.course)) t) at) yes

  fits_empty : (g : Place) → IsTimetable p t → Fits p t (facts_of p (Closed g)) → is_empty t g ≡ true
  fits_empty g inside f =
      let tests = fit_none (pattern_at g) (all_courses p) f in
      not_from_false (list_any (is_there g) t)
      (false_from_ne_true (list_any (is_there g) t) (λ any. entry_there g inside tests any))

  -- -- a wish

  -- the facts of a wish that is kept hold
  pub kept_fits : (w : Wish) → is_kept t w ≡ true → Fits p t (facts_of p w)
  kept_fits (Hold c g) kept = All-cons (Holds p t) (some_entry (pattern_at g c)) [] (held_same c g ∙ kept) (All-nil (Holds p t))
  kept_fits (Rooms c rooms) kept = only_fits c rooms kept
  kept_fits (Closed g) kept = empty_fits g kept

  -- a wish whose facts hold is kept
  pub fits_kept : (w : Wish) → IsTimetable p t → Fits p t (facts_of p w) → is_kept t w ≡ true
  fits_kept (Hold c g) inside f = sym (held_same c g) ∙ All-head (Holds p t) (some_entry (pattern_at g c)) [] f
  fits_kept (Rooms c rooms) inside f = fits_only c rooms inside f
  fits_kept (Closed g) inside f = fits_empty g inside f

  -- -- all wishes

  first_kept : (b : Bool) (n : ℕ) → one_if (not b) + n ≡ 0 → b ≡ true
  first_kept true n e = refl
  first_kept false n e = let one : one_if true ≡ 1 = refl in absurd (omega (arith, e, one))

  -- the facts of wishes of which none is broken hold
  pub all_fit : (ws : List Wish) → broken_wishes t ws ≡ 0 → Fits p t (facts_of_all p ws)
  all_fit [] none = All-nil (Holds p t)
  all_fit (w ∷ ws) none =
      let split : one_if (not (is_kept t w)) + broken_wishes t ws ≡ 0 = sym (count_by-cons (λ v. not (is_kept t v)) w ws) ∙ none in
      All-append (Holds p t) (facts_of p w) (flat_map (facts_of p) ws)
      (kept_fits w (first_kept (is_kept t w) (broken_wishes t ws) split)) (all_fit ws (omega (arith, split)))

  -- wishes whose facts all hold are kept
  pub fits_all : (ws : List Wish) → IsTimetable p t → Fits p t (facts_of_all p ws) → broken_wishes t ws ≡ 0
  fits_all [] inside f = refl
  fits_all (w ∷ ws) inside f =
      let parts = each_of_append (Holds p t) (facts_of p w) (flat_map (facts_of p) ws)
      (recursion_from_All (Holds p t) (facts_of p w ++ flat_map (facts_of p) ws) f) in
      let kept = fits_kept w inside (All-from_recursion (Holds p t) (facts_of p w) parts.0) in
      let more = fits_all ws inside (All-from_recursion (Holds p t) (flat_map (facts_of p) ws) parts.1) in
      let none = one_if_false (not (is_kept t w)) (not_from_true (is_kept t w) kept) in
      count_by-cons (λ v. not (is_kept t v)) w ws ∙ omega (arith, none, more)

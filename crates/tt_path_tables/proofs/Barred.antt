-- Cells of a pattern that are removed course by course.
use Rattle.std.proofs.Common.{◌≡◌, ℕ, ◌+◌, ◌*◌, ◌/◌, ◌%◌, ◌<◌, ◌≤◌, Bool, true, false, ◌&&◌, ◌||◌, List, [], ◌∷◌, ◌++◌, length, take, refl, sym, ap, ◌∙◌, arith, inl, inr, eq-eqb}
use Rattle.std.specs.Prelude.{◌==◌, nat_lt, slice_index_or}
use Rattle.std.proofs.lemmas.Bool.{and_parts, and_from, eqb-true, cases_lt, or_cases, or_left, or_right, lt-ltb, ltb-true, both_ways, false_from_ne_true}
use Rattle.std.proofs.lemmas.List.{take_more}
use Rattle.std.proofs.lemmas.List.Folds.{list_any-append}
use Rattle.std.proofs.lemmas.Nat.{mod-mul-add, div-mul-add}
use Rattle.std.proofs.Math.Bool.{or-false}
use Rattle.tt_list_laws.specs.Words.{has_number}
use Rattle.tt_list_laws.proofs.Truth.{same_truth, and-over}
use Rattle.tt_instance.specs.Problem.{Problem}
use Rattle.tt_instance.specs.Cells.{InRange}
use Rattle.tt_instance.specs.declared.cell.Cell.{Cell}
use Rattle.tt_path.specs.Facts.{agrees, is_who, matches}
use Rattle.tt_path.specs.Inner.Nested.{has_place_of, courses_of}
use Rattle.tt_path.specs.declared.facts.Pattern.{Pattern}
use Rattle.tt_path_tables.specs.Inner.Tables.{is_placed}
use Rattle.tt_path_tables.specs.Inner.Slots.{is_allowed, Covers}
use Rattle.tt_path_tables.proofs.Losing.{placed_at}
use Rattle.tt_path.proofs.Lost.{is_who-has}

-- ---- course by course

pub course_gone : (ks : List ℕ) (k c : ℕ) (z : Bool) → ((has_number ks c && z) || ((c == k) && z)) ≡ (has_number (ks ++ k ∷ []) c && z)
course_gone ks k c z =
    and-over (has_number ks c) (c == k) z
    ∙ ap (λ b. (has_number ks c || b) && z) (turned c k)
    ∙ ap (λ b. b && z) (sym (list_any-append (λ m. m == c) ks (k ∷ []) ∙ ap (λ b. has_number ks c || b) (or-false (k == c))))
  where
    turned : (a b : ℕ) → (a == b) ≡ (b == a)
    turned a b = same_truth (a == b) (b == a) (λ e. eq-eqb b a (sym (eqb-true a b e))) (λ e. eq-eqb a b (sym (eqb-true b a e)))

-- a course that is out of range has no cell
pub course_absent : (p : Problem) (ks : List ℕ) (k : ℕ) (x : Cell) (z : Bool) → InRange p x → length p.courses ≤ k
    → (has_number ks x.course && z) ≡ (has_number (ks ++ k ∷ []) x.course && z)
course_absent p ks k x z h past =
    sym (none (has_number ks x.course && z) ((x.course == k) && z)
    (false_from_ne_true ((x.course == k) && z) (λ e. let q = eqb-true x.course k (and_parts (x.course == k) z e).0 in
    let l = h.course in omega arith)))
    ∙ course_gone ks k x.course z
  where
    none : (a b : Bool) → b ≡ false → (a || b) ≡ a
    none true b e = refl
    none false b e = e

regroup : (w r d s : Bool) → (w && (r && d && s)) ≡ (w && r && d && s)
regroup true r d s = refl
regroup false r d s = refl

pub courses_gone : (p : Problem) (g : Pattern) (x : Cell) → (has_number (courses_of p g.who) x.course && has_place_of g x) ≡ matches p g x
courses_gone p g x = ap (λ b. b && has_place_of g x) (sym (is_who-has p g.who x.course)) ∙ regroup (is_who p g.who x.course)
    (agrees g.room x.room) (agrees g.day x.day) (agrees g.period x.period)

module _ (p : Problem) (g : Pattern) (ks : List ℕ) (i : ℕ) (hi : i < length ks) (x : Cell) where
  pub course_at : ((has_number (take i ks) x.course && has_place_of g x) || ((x.course == slice_index_or ks i 0) && has_place_of g x)) ≡
      (has_number (take (i + 1) ks) x.course && has_place_of g x)
  course_at = course_gone (take i ks) (slice_index_or ks i 0) x.course (has_place_of g x)
      ∙ ap (λ l. has_number l x.course && has_place_of g x) (sym (take_more ks i 0 hi))

  pub course_past : InRange p x → length p.courses ≤ slice_index_or ks i 0 → (has_number (take i ks) x.course && has_place_of g x) ≡
      (has_number (take (i + 1) ks) x.course && has_place_of g x)
  course_past h past = course_absent p (take i ks) (slice_index_or ks i 0) x (has_place_of g x) h past
      ∙ ap (λ l. has_number l x.course && has_place_of g x) (sym (take_more ks i 0 hi))

-- the cells of a course in one period: the test regrouped
placed_split : (c a b : Bool) → (c && a && b && true) ≡ (c && (a && b))
placed_split true true true = refl
placed_split true true false = refl
placed_split true false b = refl
placed_split false a b = refl

pub course_next_at : (ks : List ℕ) (i : ℕ) → i < length ks → (c : ℕ) (a b : Bool)
    → ((has_number (take i ks) c && (a && b)) || ((c == slice_index_or ks i 0) && a && b && true)) ≡
    (has_number (take (i + 1) ks) c && (a && b))
course_next_at ks i hi c a b =
    ap (λ t. (has_number (take i ks) c && (a && b)) || t) (placed_split (c == slice_index_or ks i 0) a b)
    ∙ course_gone (take i ks) (slice_index_or ks i 0) c (a && b) ∙ ap (λ l. has_number l c && (a && b)) (sym (take_more ks i 0 hi))

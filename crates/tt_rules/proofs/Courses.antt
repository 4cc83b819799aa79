-- Entries of one of several courses: course by course, or all at once.
use Rattle.std.proofs.Common.{◌≡◌, ℕ, ◌+◌, Bool, true, false, not, ◌&&◌, ◌||◌, List, [], ◌∷◌, refl, sym, ap, ◌∙◌, arith, inl, inr}
use Rattle.std.specs.Prelude.{◌==◌, sum_by, count_by}
use Rattle.std.specs.List.{list_any, list_all}
use Rattle.std.proofs.lemmas.Bool.{and_parts, not-true, cases_eq, ne_eqb, false≢true}
use Rattle.std.proofs.lemmas.List.Sums.{sum_by-cons}
use Rattle.tt_list_laws.specs.Words.{has_number, each_two}
use Rattle.tt_list_laws.proofs.Sums.{one_if, sum_by-same, sum_by-plus, sum_by-nothing}
use Rattle.tt_list_laws.proofs.Tests.{list_any-or, test_turned}
use Rattle.tt_list_laws.proofs.Twos.{list_all-not}
use Rattle.tt_list_laws.proofs.Tested.{list_any-same}
use Rattle.tt_instance.specs.Cells.{is_of}
use Rattle.tt_instance.specs.declared.cell.Cell.{Cell}

module _ (test : Cell → Bool) (t : List Cell) where
  -- whether some entry of one of the courses passes
  pub any_of_courses : (cs : List ℕ) → list_any (λ c. list_any (λ e. is_of c e && test e) t) cs ≡ list_any
      (λ e. has_number cs e.course && test e) t
  any_of_courses [] = sym (never t)
    where
      never : (es : List Cell) → list_any (λ e. false && test e) es ≡ false
      never [] = refl
      never (e ∷ es) = never es
  any_of_courses (c ∷ cs) =
      ap (λ b. list_any (λ e. is_of c e && test e) t || b) (any_of_courses cs)
      ∙ sym (list_any-or (λ e. is_of c e && test e) (λ e. has_number cs e.course && test e) t)
      ∙ list_any-same (λ e. (is_of c e && test e) || (has_number cs e.course && test e)) (λ e. has_number (c ∷ cs) e.course && test e) t
      (λ e. joined (is_of c e) (has_number cs e.course) (test e) ∙ ap (λ b. (b || has_number cs e.course) && test e)
      (test_turned e.course c))
    where
      joined : (a b x : Bool) → ((a && x) || (b && x)) ≡ ((a || b) && x)
      joined true b true = refl
      joined true true false = refl
      joined true false false = refl
      joined false b x = refl

  -- the number of entries of distinct courses that pass
  pub count_of_courses : (cs : List ℕ) → each_two (λ a b. not (a == b)) cs ≡ true
      → sum_by (λ c. count_by (λ e. is_of c e && test e) t) cs ≡ count_by (λ e. has_number cs e.course && test e) t
  count_of_courses [] once = sym (sum_by-nothing t)
  count_of_courses (c ∷ cs) once =
      let two = and_parts (list_all (λ b. not (c == b)) cs) (each_two (λ a b. not (a == b)) cs) once in
      let own : Cell → ℕ = λ e. one_if (is_of c e && test e) in
      let others : Cell → ℕ = λ e. one_if (has_number cs e.course && test e) in
      let both = sum_by-plus own others t in
      let first : sum_by (λ a. count_by (λ e. is_of a e && test e) t) (c ∷ cs) ≡ sum_by own t + sum_by
      (λ a. count_by (λ e. is_of a e && test e) t) cs = sum_by-cons (λ a. count_by (λ e. is_of a e && test e) t) c cs in
      let all = sum_by-same (λ e. own e + others e) (λ e. one_if (has_number (c ∷ cs) e.course && test e)) t (λ e. apart e two.0) in
      omega (arith, first, both, all, count_of_courses cs two.1)
    where
      none : list_all (λ b. not (c == b)) cs ≡ true → has_number cs c ≡ false
      none h =
          list_any-same (λ m. m == c) (λ m. c == m) cs (λ m. test_turned m c)
          ∙ not-true (list_any (λ m. c == m) cs) (sym (list_all-not (λ m. c == m) cs) ∙ h)

      -- of two tests that never pass together, at most one counts
      joined : (a b x : Bool) → (a && b) ≡ false → one_if (a && x) + one_if (b && x) ≡ one_if ((a || b) && x)
      joined true true x h = absurd (false≢true (sym h))
      joined true false x h = let z : one_if (false && x) ≡ 0 = refl in omega (arith, z)
      joined false b x h = let z : one_if (false && x) ≡ 0 = refl in omega (arith, z)

      nothing : (b : Bool) → (b && false) ≡ false
      nothing true = refl
      nothing false = refl

      not_both : (n : ℕ) → has_number cs c ≡ false → ((n == c) && has_number cs n) ≡ false
      not_both n h = elim (cases_eq n c) [
        | inl same ↦ ap (λ m. (n == c) && has_number cs m) same ∙ ap (λ b. (n == c) && b) h ∙ nothing (n == c)
        | inr other ↦ ap (λ b. b && has_number cs n) (ne_eqb n c other)
      ]

      apart : (e : Cell) → list_all (λ b. not (c == b)) cs ≡ true → one_if (is_of c e && test e) + one_if
          (has_number cs e.course && test e) ≡ one_if (has_number (c ∷ cs) e.course && test e)
      apart e h =
          joined (is_of c e) (has_number cs e.course) (test e) (not_both e.course (none h))
          ∙ ap (λ b. one_if ((b || has_number cs e.course) && test e)) (test_turned e.course c)

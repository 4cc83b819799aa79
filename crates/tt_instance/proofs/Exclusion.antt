-- Conflicts of courses hold in both orders, and no course conflicts with itself.
use Rattle.std.proofs.Common.{◌≡◌, ℕ, true, false, not, ◌&&◌, ◌||◌, List, Option, Some, None, slice_get, refl, sym, ◌∙◌, inl, inr, eqb-true, eq-eqb}
use Rattle.std.specs.Prelude.{◌==◌}
use Rattle.std.proofs.lemmas.Cmp.{nat_list_eq_equiv}
use Rattle.std.proofs.lemmas.Bool.{and_parts, and_from, and_left, both_ways, not_from_false, or_cases, or_left, or_right, false_from_ne_true, not-true, not_from_true}
use Rattle.tt_list_laws.specs.Words.{has_number}
use Rattle.tt_list_laws.proofs.Members.{any_member, member_from_any}
use Rattle.tt_text.specs.Texts.{is_same_text}
use Rattle.tt_instance.specs.Problem.{Problem}
use Rattle.tt_instance.specs.Cells.{same_cell}
use Rattle.tt_instance.specs.Courses.{course_teachers, one_teacher, one_curriculum, conflict}
use Rattle.tt_instance.specs.declared.cell.Cell.{Cell}

pub eqb-turn : (a b : ℕ) → (a == b) ≡ true → (b == a) ≡ true
eqb-turn a b e = eq-eqb b a (sym (eqb-true a b e))

text-turn : (x y : Option (List ℕ)) → is_same_text x y ≡ true → is_same_text y x ≡ true
text-turn None y e = absurd cc
text-turn (Some x) None e = absurd cc
text-turn (Some x) (Some y) e = sym (nat_list_eq_equiv.symm x y) ∙ e

curricula-turn : (p : Problem) (a b : ℕ) → one_curriculum p a b ≡ true → one_curriculum p b a ≡ true
curricula-turn p a b e =
    let w = member_from_any (λ q. has_number q.members a && has_number q.members b) p.curricula e in
    let h = and_parts (has_number w.0.members a) (has_number w.0.members b) w.2 in
    any_member (λ q. has_number q.members b && has_number q.members a) p.curricula w.0 w.1
    (and_from (has_number w.0.members b) (has_number w.0.members a) h.1 h.0)

pub conflict-turn : (p : Problem) (a b : ℕ) → conflict p a b ≡ true → conflict p b a ≡ true
conflict-turn p a b e =
    let h = and_parts (not (a == b)) (one_teacher p a b || one_curriculum p a b) e in
    let apart : not (b == a) ≡ true =
    not_from_false (b == a) (false_from_ne_true (b == a) (λ k. both_ways (a == b) (not-true (a == b) h.0) (eqb-turn b a k))) in
    and_from (not (b == a)) (one_teacher p b a || one_curriculum p b a) apart
    (elim (or_cases (one_teacher p a b) (one_curriculum p a b) h.1) [
      | inl k ↦ or_left (one_teacher p b a) (one_curriculum p b a)
          (text-turn (slice_get (course_teachers p) a) (slice_get (course_teachers p) b) k)
      | inr k ↦ or_right (one_teacher p b a) (one_curriculum p b a) (curricula-turn p a b k)
    ])

pub conflict-itself : (p : Problem) (c : ℕ) → conflict p c c ≡ false
conflict-itself p c = and_left (not (c == c)) (one_teacher p c c || one_curriculum p c c) (not_from_true (c == c) (eq-eqb c c refl))

pub same_cell-itself : (x : Cell) → same_cell x x ≡ true
same_cell-itself x =
    rw (eq-eqb x.course x.course refl, eq-eqb x.room x.room refl, eq-eqb x.day x.day refl, eq-eqb x.period x.period refl)

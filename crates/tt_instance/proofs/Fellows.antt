-- Courses of one curriculum.
use Rattle.std.proofs.Common.{◌≡◌, ℕ, true, not, ◌&&◌, ◌||◌, length, ap, inl, inr}
use Rattle.std.specs.Prelude.{◌==◌}
use Rattle.std.proofs.lemmas.List.{get_or_past}
use Rattle.std.proofs.lemmas.List.Folds.{list_any_at}
use Rattle.std.proofs.lemmas.Bool.{and_from, or_left, or_right, cases_Bool, cases_lt, not_from_false, both_ways}
use Rattle.tt_list_laws.specs.Words.{has_number}
use Rattle.tt_instance.specs.Problem.{Problem}
use Rattle.tt_instance.specs.Courses.{in_curriculum, one_teacher, one_curriculum, conflict, no_curriculum}

-- two courses of one curriculum are the same course or conflict
pub fellows : (p : Problem) (q a b : ℕ) → in_curriculum p q a ≡ true → in_curriculum p q b ≡ true → ((a == b) || conflict p a b) ≡ true
fellows p q a b ha hb = elim (cases_Bool (a == b)) [
  | inl e ↦ or_left (a == b) (conflict p a b) e
  | inr d ↦ elim (cases_lt q (length p.curricula)) [
    | inl h ↦ or_right (a == b) (conflict p a b)
        (and_from (not (a == b)) (one_teacher p a b || one_curriculum p a b) (not_from_false (a == b) d)
        (or_right (one_teacher p a b) (one_curriculum p a b)
        (list_any_at (λ k. has_number k.members a && has_number k.members b) p.curricula q no_curriculum h
        (and_from (in_curriculum p q a) (in_curriculum p q b) ha hb))))
    | inr h ↦ absurd (both_ways (in_curriculum p q a) (ap (λ k. has_number k.members a) (get_or_past p.curricula q no_curriculum h)) ha)
  ]
]

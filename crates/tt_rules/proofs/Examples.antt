-- Scores of small timetables, as the definitions compute them.
use Rattle.std.proofs.Common.{◌≡◌, ℕ, List, [], ◌∷◌, refl}
use Rattle.tt_instance.specs.Problem.{Problem}
use Rattle.tt_instance.specs.declared.cell.Cell.{Cell}
use Rattle.tt_instance.proofs.Examples.{at, mini, long, trio, tour}
use Rattle.tt_rules.specs.Hard.{lectures_count, conflicts_count, availability_count, occupancy_count}
use Rattle.tt_rules.specs.Soft.{capacity_count, days_count, compactness_count, stability_count}

-- the four hard counts and the four costs, in the order in which the validator prints them
abbrev counts : Problem → List Cell → List ℕ
counts p t =
    lectures_count p t ∷ conflicts_count p t ∷ availability_count p t ∷ occupancy_count p t
    ∷ capacity_count p t ∷ days_count p t ∷ compactness_count p t ∷ stability_count p t ∷ []

abbrev score : ℕ → ℕ → ℕ → ℕ → ℕ → ℕ → ℕ → ℕ → List ℕ
score a b c d e f g h = a ∷ b ∷ c ∷ d ∷ e ∷ f ∷ g ∷ h ∷ []

one_after_the_other : counts mini (at 0 0 0 0 ∷ at 1 0 0 1 ∷ []) ≡ score 0 0 0 0 1 0 0 0
one_after_the_other = refl

both_isolated : counts mini (at 0 0 0 0 ∷ at 1 0 0 2 ∷ []) ≡ score 0 0 0 0 1 0 4 0
both_isolated = refl

days_do_not_join : counts long (at 0 0 0 0 ∷ at 1 0 1 0 ∷ []) ≡ score 0 0 0 0 1 0 4 0
days_do_not_join = refl

three_at_once : counts trio (at 0 0 0 0 ∷ at 1 0 0 0 ∷ at 2 0 0 0 ∷ []) ≡ score 0 3 0 2 0 0 6 0
three_at_once = refl

a_second_room : counts tour (at 0 0 0 0 ∷ at 0 1 1 0 ∷ at 0 0 2 0 ∷ []) ≡ score 0 0 0 0 0 0 0 1
a_second_room = refl

without_entries : counts mini [] ≡ score 2 0 0 0 0 10 0 0
without_entries = refl

-- n entries of one course in one room and period: 2 n - 1 lectures off, n - 1 in the room too many, 2 n for isolation
four_times_the_same : counts mini (at 0 0 0 0 ∷ at 0 0 0 0 ∷ at 0 0 0 0 ∷ at 0 0 0 0 ∷ []) ≡ score 7 0 0 3 0 5 8 0
four_times_the_same = refl

moved_onto_it : counts mini (at 0 0 0 0 ∷ at 1 0 0 0 ∷ []) ≡ score 0 1 0 1 1 0 4 0
moved_onto_it = refl

exchanged : counts mini (at 0 0 0 2 ∷ at 1 0 0 0 ∷ []) ≡ score 0 0 0 0 1 0 4 0
exchanged = refl

-- An instance that has each member and each unavailability once stays as it is without repeats.
use Rattle.std.proofs.Common.{◌≡◌, ℕ, true, not, List, refl, ap}
use Rattle.std.specs.Prelude.{◌==◌, All}
use Rattle.std.proofs.lemmas.List.Elements.{All-weaker}
use Rattle.std.proofs.lemmas.List.Folds.{map_fixed}
use Rattle.tt_list_laws.specs.Words.{each_two, distinct}
use Rattle.tt_list_laws.proofs.Distinct.{distinct_stays}
use Rattle.tt_instance.specs.Problem.{Curriculum, Unavailability, Problem}
use Rattle.tt_instance.specs.Limits.{same_unavailability}
use Rattle.tt_instance.specs.Spelling.{without_repeated_members, without_repeats}
use Rattle.tt_instance_read.proofs.CurriculumLaws.{all_kept}
use Rattle.tt_instance_read.proofs.KeptLaws.{HasOnce}

-- a curriculum that has each member once stays as it is
curriculum_stays : (q : Curriculum) → HasOnce q → without_repeated_members q ≡ q
curriculum_stays q once = ap (λ (ms : List ℕ). let r : Curriculum = record { id = q.id; members = ms } in r)
    (distinct_stays (λ a b. a == b) q.members once)

-- an instance with the same curricula and unavailabilities
kept_is : (p : Problem) (qs : List Curriculum) (bs : List Unavailability) → qs ≡ p.curricula → bs ≡ p.unavailabilities
    → p ≡ record p { curricula = qs; unavailabilities = bs }
kept_is p qs bs qs_is bs_is = rw (qs_is, bs_is) refl

-- an instance that has each member and each unavailability once stays as it is
pub kept_stays : (p : Problem) → All HasOnce p.curricula → each_two (λ a b. not (same_unavailability a b)) p.unavailabilities ≡ true
    → p ≡ without_repeats p
kept_stays p members unavailabilities =
    kept_is p (all_kept p.curricula) (distinct same_unavailability p.unavailabilities)
    (map_fixed without_repeated_members p.curricula
    (All-weaker HasOnce (λ q. without_repeated_members q ≡ q) curriculum_stays p.curricula members))
    (distinct_stays same_unavailability p.unavailabilities unavailabilities)

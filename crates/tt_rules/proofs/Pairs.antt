-- Counts of pairs, one element at a time.
use Rattle.std.proofs.Common.{◌≡◌, ℕ, ◌+◌, ◌<◌, Bool, List, length, get_or, drop, ap, ◌∙◌, arith}
use Rattle.std.specs.Prelude.{◌==◌, ◌&&◌, All, filter, count_by}
use Rattle.std.proofs.lemmas.List.{drop_more}
use Rattle.tt_list_laws.specs.Words.{count_pairs}
use Rattle.tt_list_laws.proofs.Filters.{count_by-of_filter}
use Rattle.tt_list_laws.proofs.Counting.{count_by-same_at}
use Rattle.tt_list_laws.proofs.Tests.{test_turned}
use Rattle.tt_instance.specs.Problem.{Problem}
use Rattle.tt_instance.specs.Cells.{InRange}
use Rattle.tt_instance.specs.Courses.{conflict}
use Rattle.tt_instance.specs.declared.cell.Cell.{Cell}
use Rattle.tt_rules.specs.Hard.{collide}
use Rattle.tt_table.specs.Groups.{in_group, group_of}
use Rattle.tt_table.specs.declared.groups.GroupBy.TheVariants.{Period}
use Rattle.tt_table.proofs.Numbering.{same_number}

-- the pairs counted so far, and those of the elements left, are all pairs: another element
pub pairs_more : {X : Type 0} (related : X → X → Bool) (xs : List X) (i : ℕ) (d : X) (total here : ℕ) → i < length xs
    → total + count_pairs related (drop i xs) ≡ count_pairs related xs → here ≡ count_by (related (get_or xs i d)) (drop (i + 1) xs)
    → total + here + count_pairs related (drop (i + 1) xs) ≡ count_pairs related xs
pairs_more related xs i d total here h so_far found =
    omega (arith, ap (count_pairs related) (drop_more xs i d h), found, so_far)

-- the later entries that collide with an entry are those in its period whose courses conflict with its own
pub collide_behind : (p : Problem) (e : Cell) (later : List Cell) → InRange p e → All (InRange p) later
    → count_by (λ other. conflict p e.course other.course) (filter (in_group (Period p.periods) (group_of (Period p.periods) e)) later)
    ≡ count_by (collide p e) later
collide_behind p e later here ok =
    count_by-of_filter (λ other. conflict p e.course other.course) (in_group (Period p.periods) (group_of (Period p.periods) e)) later
    ∙ count_by-same_at (InRange p) (λ x. in_group (Period p.periods) (group_of (Period p.periods) e) x && conflict p e.course x.course)
    (collide p e) later ok
    (λ x k.
    ap (λ b. b && conflict p e.course x.course)
    (same_number x.day x.period e.day e.period p.periods k.period here.period ∙ ap (λ b. b && (x.period == e.period))
    (test_turned x.day e.day) ∙ ap (λ b. (e.day == x.day) && b) (test_turned x.period e.period)))

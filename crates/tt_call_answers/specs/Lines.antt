-- The lines that the commands print.
use Rattle.std.specs.Prelude.{ℕ, ◌==◌, Bool, List, [], ◌∷◌, ◌++◌, Option, Some, None, codes, if◌then◌else◌}
use Rattle.std.specs.Fmt.{decimal}
use Rattle.tt_instance.specs.Problem.{Problem}
use Rattle.tt_instance.specs.declared.cell.Cell.{Cell}
use Rattle.tt_rules.specs.Hard.{lectures_count, conflicts_count, availability_count, occupancy_count}
use Rattle.tt_rules.specs.Soft.{capacity_count, days_count, compactness_count, stability_count}
use Rattle.tt_rules.specs.Score.{hard, cost}
use Rattle.tt_leaf.specs.declared.leaf.Bound.{Bound}
use Rattle.tt_leaf.specs.declared.leaf.Bound.TheVariants.{AtLeast, Nothing}

-- a solution that breaks no hard rule, its cost and the bound that is proved
abbrev pub yes_line : ℕ → ℕ → List ℕ
yes_line c b = codes "yes cost " ++ decimal c ++ codes " bound " ++ decimal b ++ (if c == b then codes " optimal" else []) ++ 10 ∷ []

-- a solution that breaks a hard rule
abbrev pub broken_line : ℕ → ℕ → List ℕ
broken_line h c = codes "broken hard " ++ decimal h ++ codes " cost " ++ decimal c ++ 10 ∷ []

-- the bound that is derived
abbrev pub bound_line : Bound → List ℕ
bound_line (AtLeast b) = codes "bound " ++ decimal b ++ 10 ∷ []
bound_line Nothing = codes "bound " ++ codes "none" ++ 10 ∷ []

-- the cost of the best timetable, if there is one
abbrev pub best_cost : Problem → Option (List Cell) → List ℕ
best_cost p None = codes "none"
best_cost p (Some t) = decimal (cost p t)

-- The number of a bound in decimal, or `none` if the bound is that no feasible timetable exists.
abbrev pub bound_points : Bound → List ℕ
bound_points (AtLeast b) = decimal b
bound_points Nothing = codes "none"

-- the result of a search, and whether it is finished
abbrev pub solve_line : Problem → Option (List Cell) → Bound → Bool → List ℕ
solve_line p best b finished =
    codes "cost " ++ best_cost p best ++ codes " bound " ++ bound_points b
    ++ (if finished then codes " finished" else codes " unfinished") ++ 10 ∷ []

-- the sum of proofs, and their number
abbrev pub parts_line : Bound → ℕ → List ℕ
parts_line b n = codes "bound " ++ bound_points b ++ codes " parts " ++ decimal n ++ 10 ∷ []

-- the cost of a timetable and a bound, and whether they meet
abbrev pub best_line : ℕ → ℕ → List ℕ
best_line c b = codes "cost " ++ decimal c ++ codes " bound " ++ decimal b ++ (if c == b then codes " optimal" else []) ++ 10 ∷ []

-- a bound if no timetable was found
abbrev pub none_line : Bound → List ℕ
none_line b = codes "cost none bound " ++ bound_points b ++ 10 ∷ []

-- the number of hard rules that a timetable breaks, and its cost
abbrev pub pair_line : ℕ → ℕ → List ℕ
pair_line h c = codes "hard " ++ decimal h ++ codes " cost " ++ decimal c ++ 10 ∷ []

-- a name and its number
abbrev pub count_line : List ℕ → ℕ → List ℕ
count_line name n = name ++ 32 ∷ decimal n ++ 10 ∷ []

-- the ten lines of the validator
abbrev pub score_text : Problem → List Cell → List ℕ
score_text p t =
    count_line (codes "lectures") (lectures_count p t)
    ++ count_line (codes "conflicts") (conflicts_count p t)
    ++ count_line (codes "availability") (availability_count p t)
    ++ count_line (codes "room_occupancy") (occupancy_count p t)
    ++ count_line (codes "room_capacity") (capacity_count p t)
    ++ count_line (codes "min_working_days") (days_count p t)
    ++ count_line (codes "compactness") (compactness_count p t)
    ++ count_line (codes "room_stability") (stability_count p t)
    ++ count_line (codes "hard") (hard p t)
    ++ count_line (codes "cost") (cost p t)

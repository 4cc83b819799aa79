-- When a leaf closes a node.
use Rattle.std.specs.Prelude.{◌≡◌, ℕ, ◌<◌, ◌≤◌, Bool, true, not, ◌||◌, List, length, Contains, sum_by, count_by}
use Rattle.std.specs.List.{list_any, list_all}
use Rattle.tt_list_laws.specs.Words.{each_two, AreDistinct}
use Rattle.tt_instance.specs.Problem.{Problem}
use Rattle.tt_instance.specs.Cells.{cell, all_rooms, all_slots, all_cells}
use Rattle.tt_instance.specs.Courses.{lectures, conflict}
use Rattle.tt_path.specs.Facts.{matches}
use Rattle.tt_path.specs.Live.{is_dead, is_live, live_period, pinned_periods}
use Rattle.tt_path.specs.declared.facts.Who.TheVariants.{Course}
use Rattle.tt_path.specs.declared.facts.Pattern.{Pattern}
use Rattle.tt_path.specs.declared.facts.Fact.{Fact}
use Rattle.tt_leaf_rules.specs.Claims.{claimed, is_fair, total_of}
use Rattle.tt_leaf.specs.declared.leaf.Bound.{Bound}
use Rattle.tt_leaf.specs.declared.leaf.Bound.TheVariants.{AtLeast, Nothing}
use Rattle.tt_leaf.specs.declared.leaf.Leaf.{Leaf}
use Rattle.tt_leaf.specs.declared.leaf.Leaf.TheVariants.{Empty, Many, Clique, Slots, Cost}

-- Each cell that the pattern matches is dead.
abbrev pub all_dead : Problem → List Fact → Pattern → Bool
all_dead p path g = list_all (λ x. not (matches p g x) || is_dead p path x) (all_cells p)

-- The number of lectures that these courses have together.
abbrev pub all_lectures : Problem → List ℕ → ℕ
all_lectures p cs = sum_by (lectures p) cs

-- The number of periods that have a live cell of one of these courses.
abbrev pub open_periods : Problem → List Fact → List ℕ → ℕ
open_periods p path cs = count_by (λ s. list_any (λ c. live_period p path c s) cs) (all_slots p)

-- The number of pairs of a room and a period that have a live cell of one of these courses.
abbrev pub open_rooms : Problem → List Fact → List ℕ → ℕ
open_rooms p path cs =
    sum_by (λ r. count_by (λ s. list_any (λ c. is_live p path (cell c r s)) cs) (all_slots p)) (all_rooms p)

-- ---- when a leaf is right

-- Empty: the path has the pattern as a yes-fact, and each cell that it matches is dead. Many: the course has more pinned periods than
-- lectures. Clique: at least one course is given, each two of the courses conflict, and they have more lectures than open periods. Slots: the
-- courses are distinct, and have more lectures than rooms in open periods. Cost: no target is claimed twice, the prices of each claim are
-- covered, and the values of the claims add up to at least the bound; a cost leaf can't claim that no timetable exists.
abbrev pub IsRight : Problem → List Fact → Bound → Leaf → Type 0
IsRight p path b (Empty g) = Contains path (record { pattern = g; holds = true }) × (all_dead p path g ≡ true)
IsRight p path b (Many c) = lectures p c < pinned_periods p path (Course c)
IsRight p path b (Clique cs) =
    (0 < length cs) × (each_two (conflict p) cs ≡ true) × (open_periods p path cs < all_lectures p cs)
IsRight p path b (Slots cs) = AreDistinct cs × (open_rooms p path cs < all_lectures p cs)
IsRight p path (AtLeast b) (Cost claims) =
    AreDistinct (claimed claims) × (list_all (is_fair p path) claims ≡ true) × (b ≤ total_of p path claims)
IsRight p path Nothing (Cost claims) = ⊥

-- The values of the claims of a cost leaf, and the parts of the cost that they claim.
use Rattle.std.specs.Prelude.{ℕ, ◌+◌, ◌-◌, ◌*◌, min, max, ◌==◌, nat_le, Bool, true, not, ◌&&◌, ◌||◌, List, [], ◌∷◌, map, filter, flat_map, sum_by, count_by, if◌then◌else◌}
use Rattle.std.specs.List.{list_any, list_all}
use Rattle.tt_list_laws.specs.Words.{range_below}
use Rattle.tt_instance.specs.declared.limit.TheConstants.{ISOLATED_COST, MISSING_DAY_COST}
use Rattle.tt_instance.specs.Problem.{Problem}
use Rattle.tt_instance.specs.Cells.{slot, cell, next_to, is_of, all_rooms, all_days, all_slots}
use Rattle.tt_instance.specs.Courses.{lectures, min_days, members, excess}
use Rattle.tt_instance.specs.declared.cell.Cell.{Cell}
use Rattle.tt_instance.specs.declared.cell.Slot.{Slot}
use Rattle.tt_rules.specs.Soft.{days_cost, compactness_cost, stability_cost}
use Rattle.tt_path.specs.Live.{is_live, pinned_periods, live_period, live_day, pinned, pinned_room}
use Rattle.tt_path.specs.declared.facts.Who.TheVariants.{Course, Curriculum}
use Rattle.tt_path.specs.declared.facts.Fact.{Fact}
use Rattle.tt_leaf.specs.declared.leaf.Claim.{Claim}
use Rattle.tt_leaf.specs.declared.leaf.Claim.TheVariants.{Capacity, Days, Compact, Stable, Prices, Stacked}

-- ---- targets: the kinds of cost, each with its course or curriculum

-- A kind of cost of one course, or of one curriculum for compactness.
pub data Target : Type 0 where
  RoomCapacity : ℕ → Target
  WorkingDays : ℕ → Target
  Compactness : ℕ → Target
  Stability : ℕ → Target

-- The part of the cost that belongs to a target.
abbrev pub part : Problem → List Cell → Target → ℕ
part p t (RoomCapacity c) = sum_by (λ e. if is_of c e then excess p e.course e.room else 0) t
part p t (WorkingDays c) = days_cost p t c
part p t (Compactness q) = compactness_cost p t q
part p t (Stability c) = stability_cost p t c

-- The targets that a claim claims: one, or the room capacity of each course that it gives a price.
abbrev pub targets_of : Claim → List Target
targets_of (Capacity c u) = RoomCapacity c ∷ []
targets_of (Days c) = WorkingDays c ∷ []
targets_of (Compact q) = Compactness q ∷ []
targets_of (Stable c) = Stability c ∷ []
targets_of (Prices courses rooms) = map (λ k. RoomCapacity k.0) courses
targets_of (Stacked c) = WorkingDays c ∷ []

-- ---- values

-- The greatest number of a list, 0 for an empty list.
abbrev pub greatest : List ℕ → ℕ
greatest [] = 0
greatest (n ∷ ns) = max n (greatest ns)

-- The maximum by which the price is above the excess of a live cell of the course in the period.
abbrev pub discount : Problem → List Fact → ℕ → ℕ → Slot → ℕ
discount p path c u s =
    greatest (map (λ r. u - excess p c r) (filter (λ r. is_live p path (cell c r s)) (all_rooms p)))

-- No neighbour of the period on its day has a live cell of a member.
abbrev pub is_alone : Problem → List Fact → ℕ → Slot → Bool
is_alone p path q s =
    not (list_any (λ n. next_to n s && list_any (λ c. live_period p path c n) (members p q)) (all_slots p))

-- The price that the list gives, or 0 if it gives none.
abbrev pub price_in : List (ℕ × ℕ) → ℕ → ℕ
price_in [] r = 0
price_in (x ∷ xs) r = if r == x.0 then x.1 else price_in xs r

-- The cell of course c is dead, or its excess and its room's price cover the course's price u.
abbrev pub is_covered : Problem → List Fact → List (ℕ × ℕ) → ℕ → ℕ → ℕ → Slot → Bool
is_covered p path rooms c u r s = not (is_live p path (cell c r s)) || nat_le u (excess p c r + price_in rooms r)

-- Each cell of each listed course is covered.
abbrev pub are_covered : Problem → List Fact → List (ℕ × ℕ) → List (ℕ × ℕ) → Bool
are_covered p path courses rooms =
    list_all (λ k. list_all (λ r. list_all (λ s. is_covered p path rooms k.0 k.1 r s) (all_slots p)) (all_rooms p)) courses

-- If the claim lists prices, each cell of its courses is covered; all other claims are fair.
abbrev pub is_fair : Problem → List Fact → Claim → Bool
is_fair p path (Prices courses rooms) = are_covered p path courses rooms
is_fair p path _ = true

-- How many periods have a live cell of some listed course in the room.
abbrev pub open_in : Problem → List Fact → List (ℕ × ℕ) → ℕ → ℕ
open_in p path courses r = count_by (λ s. list_any (λ k. is_live p path (cell k.0 r s)) courses) (all_slots p)

-- The day has a pinned period of the course.
abbrev pub pinned_day : Problem → List Fact → ℕ → ℕ → Bool
pinned_day p path c d = list_any (λ s. pinned p path (Course c) (slot d s)) (range_below p.periods)

-- The number of days that have a live period of the course.
abbrev pub live_days : Problem → List Fact → ℕ → ℕ
live_days p path c = count_by (live_day p path c) (all_days p)

-- The number of days that have a pinned period of the course.
abbrev pub pinned_days : Problem → List Fact → ℕ → ℕ
pinned_days p path c = count_by (pinned_day p path c) (all_days p)

-- The value of a claim on a path, in points of cost.
abbrev pub value_of : Problem → List Fact → Claim → ℕ
value_of p path (Capacity c u) =
    lectures p c * u - sum_by (discount p path c u) (all_slots p)
value_of p path (Days c) =
    MISSING_DAY_COST * (min_days p c - min (lectures p c) (live_days p path c))
value_of p path (Compact q) =
    ISOLATED_COST * count_by (λ s. pinned p path (Curriculum q) s && is_alone p path q s) (all_slots p)
value_of p path (Stable c) = count_by (pinned_room p path c) (all_rooms p) - 1
value_of p path (Prices courses rooms) =
    sum_by (λ k. lectures p k.0 * k.1) courses - sum_by (λ k. k.1 * open_in p path courses k.0) rooms
value_of p path (Stacked c) =
    MISSING_DAY_COST * (min_days p c - min (live_days p path c) (pinned_days p path c + (lectures p c - pinned_periods p path (Course c))))

-- The targets of all claims, in the order of the claims.
abbrev pub claimed : List Claim → List Target
claimed claims = flat_map targets_of claims

-- The values of the claims on the path, added up.
abbrev pub total_of : Problem → List Fact → List Claim → ℕ
total_of p path claims = sum_by (value_of p path) claims

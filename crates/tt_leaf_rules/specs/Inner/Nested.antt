-- The leaf rules one number at a time, in the order in which the code goes through them.
use Rattle.std.specs.Prelude.{◌≡◌, ℕ, ◌+◌, ◌-◌, ◌*◌, ◌<◌, nat_lt, nat_le, sum_by, count_by, All, Bool, true, not, ◌&&◌, ◌||◌, List, length, Option, Some, None}
use Rattle.std.specs.List.{list_any, list_all}
use Rattle.tt_list_laws.specs.Words.{each_two}
use Rattle.tt_bits.specs.Inner.Bits.{each_bit}
use Rattle.tt_instance.specs.Problem.{Problem}
use Rattle.tt_instance.specs.Cells.{slot, cell, all_rooms, all_slots}
use Rattle.tt_instance.specs.Courses.{lectures}
use Rattle.tt_instance.specs.declared.cell.Slot.{Slot}
use Rattle.tt_path.specs.Facts.{agrees}
use Rattle.tt_path.specs.Live.{is_dead, is_live, live_period, least_excess, pinned, pinned_room}
use Rattle.tt_path.specs.declared.facts.Who.TheVariants.{Curriculum}
use Rattle.tt_path.specs.declared.facts.Pattern.{Pattern}
use Rattle.tt_path.specs.declared.facts.Fact.{Fact}
use Rattle.tt_leaf_rules.specs.Claims.{Target, targets_of, is_alone, open_in, is_covered}
use Rattle.tt_leaf_rules.specs.Tests.{same_target}
use Rattle.tt_leaf.specs.declared.leaf.Claim.{Claim}

-- ---- dead cells

-- The course's cells in the period are dead, in the given room if one is given.
abbrev pub are_rooms_dead : Problem → List Fact → Option ℕ → ℕ → Slot → Bool
are_rooms_dead p path room c s = list_all (λ r. not (agrees room r) || is_dead p path (cell c r s)) (all_rooms p)

-- The pattern doesn't allow the period, or the course's cells there in the rooms that it allows are dead.
abbrev pub is_period_dead : Problem → List Fact → Pattern → ℕ → Slot → Bool
is_period_dead p path g c s =
    not (agrees g.day s.day) || not (agrees g.period s.period) || are_rooms_dead p path g.room c s

-- In each period, the pattern doesn't allow it or the course's cells there in the rooms that it allows are dead.
abbrev pub is_course_dead : Problem → List Fact → Pattern → ℕ → Bool
is_course_dead p path g c = list_all (is_period_dead p path g c) (all_slots p)

-- The course is out of range, or each of its cells that the pattern allows is dead.
abbrev pub is_gone_or_dead : Problem → List Fact → Pattern → ℕ → Bool
is_gone_or_dead p path g c = nat_le (length p.courses) c || is_course_dead p path g c

-- ---- courses with a live cell

-- Some course of the list has a live cell in the period.
abbrev pub live_for : Problem → List Fact → List ℕ → Slot → Bool
live_for p path cs s = list_any (λ c. live_period p path c s) cs

-- Some course of the list has a live cell in the room in the period.
abbrev pub live_in : Problem → List Fact → List ℕ → ℕ → Slot → Bool
live_in p path cs r s = list_any (λ c. is_live p path (cell c r s)) cs

-- The number of rooms that have a live cell of some course of the list in the period.
abbrev pub open_in_period : Problem → List Fact → List ℕ → Slot → ℕ
open_in_period p path cs s = count_by (λ r. live_in p path cs r s) (all_rooms p)

-- ---- days, rooms and periods of one course or curriculum

-- The number of rooms that are pinned for the course.
abbrev pub pinned_rooms : Problem → List Fact → ℕ → ℕ
pinned_rooms p path c = count_by (pinned_room p path c) (all_rooms p)

-- The number of pinned periods of the curriculum that are alone.
abbrev pub isolated_periods : Problem → List Fact → ℕ → ℕ
isolated_periods p path q =
    count_by (λ s. pinned p path (Curriculum q) s && is_alone p path q s) (all_slots p)

-- The amount by which a price is above the least excess of a period, or 0 if the period has none.
abbrev pub above_least : ℕ → Option ℕ → ℕ
above_least u None = 0
above_least u (Some m) = u - m

-- The sum of the discounts of a price over all periods.
abbrev pub discounts : Problem → List Fact → ℕ → ℕ → ℕ
discounts p path c u = sum_by (λ s. above_least u (least_excess p path c s)) (all_slots p)

-- ---- the neighbours of a period

-- The period before it on the same day is live for one of the courses.
abbrev pub live_before : Problem → List Fact → List ℕ → Slot → Bool
live_before p path cs s = nat_lt 0 s.period && live_for p path cs (slot s.day (s.period - 1))

-- The period after it on the same day is live for one of the courses.
abbrev pub live_after : Problem → List Fact → List ℕ → Slot → Bool
live_after p path cs s =
    nat_lt (s.period + 1) p.periods && live_for p path cs (slot s.day (s.period + 1))

-- ---- prices

-- Each price is for a number below the bound.
abbrev pub PricesBelow : ℕ → List (ℕ × ℕ) → Type 0
PricesBelow count prices = All (λ k. k.0 < count) prices

-- None of these rooms of the block has a live cell of the course in the period.
abbrev pub clear_in : Problem → List Fact → ℕ → ℕ → ℕ → Slot → Bool
clear_in p path c block rooms s =
    each_bit rooms (λ n. not (nat_lt (block * 64 + n) (length p.rooms)) || is_dead p path (cell c (block * 64 + n) s))

-- Some course of the list has a live cell in the room in the period.
abbrev pub priced_live_in : Problem → List Fact → List (ℕ × ℕ) → ℕ → Slot → Bool
priced_live_in p path courses r s = list_any (λ k. is_live p path (cell k.0 r s)) courses

-- The lectures of the courses at their prices, added up.
abbrev pub course_prices : Problem → List (ℕ × ℕ) → ℕ
course_prices p courses = sum_by (λ k. lectures p k.0 * k.1) courses

-- The open periods of the rooms at their prices, added up.
abbrev pub room_prices : Problem → List Fact → List (ℕ × ℕ) → List (ℕ × ℕ) → ℕ
room_prices p path courses rooms = sum_by (λ k. k.1 * open_in p path courses k.0) rooms

-- For each live cell of the course in the room, the excess and the room's price cover the course's price.
abbrev pub covered_in : Problem → List Fact → List (ℕ × ℕ) → ℕ × ℕ → ℕ → Bool
covered_in p path rooms k r =
    list_all (λ s. is_covered p path rooms k.0 k.1 r s) (all_slots p)

-- For each live cell of the course in any room, the excess and the room's price cover the course's price.
abbrev pub covered : Problem → List Fact → List (ℕ × ℕ) → ℕ × ℕ → Bool
covered p path rooms k = list_all (covered_in p path rooms k) (all_rooms p)

-- ---- targets

-- The claim has the target.
abbrev pub claims_target : Claim → Target → Bool
claims_target claim t = list_any (same_target t) (targets_of claim)

-- No target of the first claim is one of the second.
abbrev pub are_apart : Claim → Claim → Bool
are_apart a b = list_all (λ t. not (claims_target b t)) (targets_of a)

-- The claim has no target twice.
abbrev pub IsOnce : Claim → Type 0
IsOnce claim = each_two (λ a b. not (same_target a b)) (targets_of claim) ≡ true

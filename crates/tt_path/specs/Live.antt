-- What a path of facts leaves possible: dead and live cells, and pinned periods and rooms.
use Rattle.std.specs.Prelude.{ℕ, ◌==◌, Bool, false, not, ◌&&◌, ◌||◌, List, [], ◌∷◌, min, map, filter, Option, Some, None, count_by}
use Rattle.std.specs.List.{list_any, list_all}
use Rattle.tt_list_laws.specs.Words.{range_below}
use Rattle.tt_instance.specs.Problem.{Problem}
use Rattle.tt_instance.specs.Cells.{slot, cell, all_rooms, all_slots, all_cells, same_cell}
use Rattle.tt_instance.specs.Courses.{in_curriculum, conflict, unavailable, excess}
use Rattle.tt_instance.specs.declared.cell.Cell.{Cell}
use Rattle.tt_instance.specs.declared.cell.Slot.{Slot}
use Rattle.tt_path.specs.declared.facts.Who.{Who}
use Rattle.tt_path.specs.declared.facts.Who.TheVariants.{Course, Curriculum}
use Rattle.tt_path.specs.declared.facts.Pattern.{Pattern}
use Rattle.tt_path.specs.declared.facts.Fact.{Fact}
use Rattle.tt_path.specs.Facts.{matches}

-- Whether they are two different cells in one period of the week that share the room or the course, or whose courses conflict.
abbrev pub clash : Problem → Cell → Cell → Bool
clash p a b =
    not (same_cell a b) && (a.day == b.day) && (a.period == b.period)
    && ((a.room == b.room) || (a.course == b.course) || conflict p a.course b.course)

-- Whether the period is unavailable for the course, or a no-fact matches the cell.
abbrev pub is_barred : Problem → List Fact → Cell → Bool
is_barred p path x =
    unavailable p x.course x.day x.period || list_any (λ f. not f.holds && matches p f.pattern x) path

-- Whether each cell that the pattern matches is barred or clashes with x.
abbrev pub excludes : Problem → List Fact → Pattern → Cell → Bool
excludes p path g x = list_all (λ y. not (matches p g y) || is_barred p path y || clash p y x) (all_cells p)

-- Whether the cell is barred, or excluded by some yes-fact. This is a single step: a cell that one fact kills doesn't count as gone for another.
abbrev pub is_dead : Problem → List Fact → Cell → Bool
is_dead p path x = is_barred p path x || list_any (λ f. f.holds && excludes p path f.pattern x) path

-- Whether the cell is not dead.
abbrev pub is_live : Problem → List Fact → Cell → Bool
is_live p path x = not (is_dead p path x)

-- Whether some room gives a live cell of the course in the period.
abbrev pub live_period : Problem → List Fact → ℕ → Slot → Bool
live_period p path c s = list_any (λ r. is_live p path (cell c r s)) (all_rooms p)

-- Whether some period of the day is live for the course.
abbrev pub live_day : Problem → List Fact → ℕ → ℕ → Bool
live_day p path c d = list_any (λ s. live_period p path c (slot d s)) (range_below p.periods)

-- ---- the least excess

-- The smaller of two numbers, or the first if there is no second.
abbrev pub least_with : ℕ → Option ℕ → ℕ
least_with n None = n
least_with n (Some m) = min n m

-- The least number of a list.
abbrev pub least : List ℕ → Option ℕ
least [] = None
least (n ∷ ns) = Some (least_with n (least ns))

-- The least excess of the course's live cells in the period.
abbrev pub least_excess : Problem → List Fact → ℕ → Slot → Option ℕ
least_excess p path c s =
    least (map (excess p c) (filter (λ r. is_live p path (cell c r s)) (all_rooms p)))

-- -- what the yes-facts pin

-- Whether a number is given and is this one.
abbrev pub gives : Option ℕ → ℕ → Bool
gives None n = false
gives (Some m) n = m == n

-- Whether a fact about the second is about the first: a fact about a member is also about its curriculum.
abbrev pub is_pinned_by : Problem → Who → Who → Bool
is_pinned_by p (Course c) (Course a) = a == c
is_pinned_by p (Course c) (Curriculum q) = false
is_pinned_by p (Curriculum q) (Course a) = in_curriculum p q a
is_pinned_by p (Curriculum q) (Curriculum k) = k == q

-- Whether a yes-fact about the course or curriculum gives this day and this period.
abbrev pub pinned : Problem → List Fact → Who → Slot → Bool
pinned p path who s =
    list_any (λ f. f.holds && is_pinned_by p who f.pattern.who && gives f.pattern.day s.day && gives f.pattern.period s.period) path

-- Whether a yes-fact about the course gives this room.
abbrev pub pinned_room : Problem → List Fact → ℕ → ℕ → Bool
pinned_room p path c r =
    list_any (λ f. f.holds && is_pinned_by p (Course c) f.pattern.who && gives f.pattern.room r) path

-- The number of pinned periods, each counted once, regardless of how many facts give it.
abbrev pub pinned_periods : Problem → List Fact → Who → ℕ
pinned_periods p path who = count_by (pinned p path who) (all_slots p)

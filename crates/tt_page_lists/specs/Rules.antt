-- The eight counts of the score, with their names in a page.
use Rattle.std.specs.Prelude.{ℕ, Bool, true, false, List, codes}
use Rattle.tt_instance.specs.Problem.{Problem}
use Rattle.tt_instance.specs.declared.cell.Cell.{Cell}
use Rattle.tt_rules.specs.Hard.{lectures_count, conflicts_count, availability_count, occupancy_count}
use Rattle.tt_rules.specs.Soft.{capacity_count, days_count, compactness_count, stability_count}
use Rattle.tt_page_lists.specs.declared.rule.Rule.{Rule}
use Rattle.tt_page_lists.specs.declared.rule.Rule.TheVariants as rule

-- The number of violations of a hard rule by a timetable, or its cost by a soft rule.
abbrev pub rule_count : Problem → List Cell → Rule → ℕ
rule_count p t rule.Lectures = lectures_count p t
rule_count p t rule.Conflicts = conflicts_count p t
rule_count p t rule.Availability = availability_count p t
rule_count p t rule.RoomOccupancy = occupancy_count p t
rule_count p t rule.RoomCapacity = capacity_count p t
rule_count p t rule.WorkingDays = days_count p t
rule_count p t rule.Compactness = compactness_count p t
rule_count p t rule.RoomStability = stability_count p t

-- Whether this count is 0 for a feasible timetable.
abbrev pub is_hard : Rule → Bool
is_hard rule.Lectures = true
is_hard rule.Conflicts = true
is_hard rule.Availability = true
is_hard rule.RoomOccupancy = true
is_hard _ = false

-- ---- words

-- The word of a rule in links.
abbrev pub rule_word : Rule → List ℕ
rule_word rule.Lectures = codes "lectures"
rule_word rule.Conflicts = codes "conflicts"
rule_word rule.Availability = codes "availability"
rule_word rule.RoomOccupancy = codes "occupancy"
rule_word rule.RoomCapacity = codes "capacity"
rule_word rule.WorkingDays = codes "days"
rule_word rule.Compactness = codes "compactness"
rule_word rule.RoomStability = codes "stability"

-- The name of a rule in tables and headings.
abbrev pub rule_title : Rule → List ℕ
rule_title rule.Lectures = codes "Lectures"
rule_title rule.Conflicts = codes "Conflicts"
rule_title rule.Availability = codes "Availability"
rule_title rule.RoomOccupancy = codes "Room occupancy"
rule_title rule.RoomCapacity = codes "Room capacity"
rule_title rule.WorkingDays = codes "Working days"
rule_title rule.Compactness = codes "Compactness"
rule_title rule.RoomStability = codes "Room stability"

-- The explanation of a rule's count in the tables.
abbrev pub rule_meaning : Rule → List ℕ
rule_meaning rule.Lectures = codes "missing, surplus, or two of a course in one period"
rule_meaning rule.Conflicts = codes "pairs of one teacher or curriculum in one period"
rule_meaning rule.Availability = codes "in a period unavailable for the course"
rule_meaning rule.RoomOccupancy = codes "beside another lecture in a room and period"
rule_meaning rule.RoomCapacity = codes "students without a seat"
rule_meaning rule.WorkingDays = codes "5 for each day below a course's minimum"
rule_meaning rule.Compactness = codes "2 for each isolated lecture of a curriculum"
rule_meaning rule.RoomStability = codes "rooms of a course beside its first"

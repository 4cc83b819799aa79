-- What a path leaves possible, one number at a time, in the order in which the code goes through it.
use Rattle.std.specs.Prelude.{ℕ, Bool, not, ◌&&◌, ◌||◌, List, Option, [], ◌∷◌, nat_le, filter, length}
use Rattle.std.specs.List.{list_any, list_all}
use Rattle.tt_list_laws.specs.Words.{range_below}
use Rattle.tt_instance.specs.Problem.{Problem}
use Rattle.tt_instance.specs.Cells.{slot, cell}
use Rattle.tt_instance.specs.Courses.{members}
use Rattle.tt_instance.specs.declared.cell.Cell.{Cell}
use Rattle.tt_path.specs.Facts.{agrees, matches}
use Rattle.tt_path.specs.Live.{clash, is_barred, excludes}
use Rattle.tt_path.specs.declared.facts.Who.{Who}
use Rattle.tt_path.specs.declared.facts.Who.TheVariants.{Course, Curriculum}
use Rattle.tt_path.specs.declared.facts.Pattern.{Pattern}
use Rattle.tt_path.specs.declared.facts.Fact.{Fact}

-- The room, day and period of the cell are the pattern's, if it gives them.
abbrev pub has_place_of : Pattern → Cell → Bool
has_place_of g x = agrees g.room x.room && agrees g.day x.day && agrees g.period x.period

-- A no-fact matches the cell.
abbrev pub is_denied : Problem → List Fact → Cell → Bool
is_denied p path x = list_any (λ f. not f.holds && matches p f.pattern x) path

-- Some yes-fact excludes the cell.
abbrev pub is_excluded : Problem → List Fact → Cell → Bool
is_excluded p path x = list_any (λ f. f.holds && excludes p path f.pattern x) path

-- The numbers below a bound that agree with a number that may be given.
abbrev pub numbers_given : Option ℕ → ℕ → List ℕ
numbers_given given count = filter (agrees given) (range_below count)

-- The course that is meant, or the members of the curriculum that is meant.
abbrev pub courses_of : Problem → Who → List ℕ
courses_of p (Course c) = c ∷ []
courses_of p (Curriculum q) = members p q

-- y clashes with x, or is barred.
abbrev pub is_lost : Problem → List Fact → Cell → Cell → Bool
is_lost p path x y = clash p y x || is_barred p path y

-- Each cell of the course in the room on the day that agrees with the pattern is lost.
abbrev pub is_day_lost : Problem → List Fact → Pattern → Cell → ℕ → ℕ → ℕ → Bool
is_day_lost p path g x c r d =
    list_all (λ s. is_lost p path x (cell c r (slot d s))) (numbers_given g.period p.periods)

-- Each cell of the course in the room that agrees with the pattern is lost, on each day.
abbrev pub is_room_lost : Problem → List Fact → Pattern → Cell → ℕ → ℕ → Bool
is_room_lost p path g x c r = list_all (is_day_lost p path g x c r) (numbers_given g.day p.days)

-- Each cell of the course that agrees with the pattern is lost, in each room.
abbrev pub are_rooms_lost : Problem → List Fact → Pattern → Cell → ℕ → Bool
are_rooms_lost p path g x c = list_all (is_room_lost p path g x c) (numbers_given g.room (length p.rooms))

-- The course is out of range, or each of its cells that agree with the pattern is lost.
abbrev pub is_course_lost : Problem → List Fact → Pattern → Cell → ℕ → Bool
is_course_lost p path g x c = nat_le (length p.courses) c || are_rooms_lost p path g x c

-- Patterns, facts, and which timetables fit a path of facts.
use Rattle.std.specs.Prelude.{◌≡◌, ℕ, ◌==◌, ◌<◌, Bool, true, false, ◌&&◌, List, length, Option, Some, None, IfSome, All}
use Rattle.std.specs.List.{list_any}
use Rattle.tt_instance.specs.Problem.{Problem}
use Rattle.tt_instance.specs.Courses.{in_curriculum}
use Rattle.tt_instance.specs.declared.cell.Cell.{Cell}
use Rattle.tt_path.specs.declared.facts.Who.{Who}
use Rattle.tt_path.specs.declared.facts.Who.TheVariants.{Course, Curriculum}
use Rattle.tt_path.specs.declared.facts.Pattern.{Pattern}
use Rattle.tt_path.specs.declared.facts.Fact.{Fact}

-- A number that isn't given agrees with every number.
abbrev pub agrees : Option ℕ → ℕ → Bool
agrees None n = true
agrees (Some m) n = m == n

-- The course is the one that is meant, or a member of the curriculum that is meant.
abbrev pub is_who : Problem → Who → ℕ → Bool
is_who p (Course a) c = c == a
is_who p (Curriculum q) c = in_curriculum p q c

-- The cell's course, room, day and period agree with the pattern.
abbrev pub matches : Problem → Pattern → Cell → Bool
matches p g x = is_who p g.who x.course && agrees g.room x.room && agrees g.day x.day && agrees g.period x.period

-- A yes-fact says that some entry matches, a no-fact that none does.
abbrev pub Holds : Problem → List Cell → Fact → Type 0
Holds p t f = list_any (matches p f.pattern) t ≡ f.holds

-- Each fact of the path holds for the timetable.
abbrev pub Fits : Problem → List Cell → List Fact → Type 0
Fits p t path = All (Holds p t) path

-- ---- the numbers of a pattern

-- The course or curriculum is one of the instance.
abbrev pub IsWho : Problem → Who → Type 0
IsWho p (Course c) = c < length p.courses
IsWho p (Curriculum q) = q < length p.curricula

-- The numbers of a pattern are in the range of the instance.
pub record IsPattern (p : Problem) (g : Pattern) : Type 0 where
  pub who : IsWho p g.who
  pub room : IfSome g.room (λ n. n < length p.rooms)
  pub day : IfSome g.day (λ n. n < p.days)
  pub period : IfSome g.period (λ n. n < p.periods)

-- ---- patterns as values

-- Whether two numbers are the same; two that aren't given are the same.
abbrev pub same_option : Option ℕ → Option ℕ → Bool
same_option None None = true
same_option None (Some n) = false
same_option (Some m) None = false
same_option (Some m) (Some n) = m == n

-- Whether both are the same course or the same curriculum.
abbrev pub same_who : Who → Who → Bool
same_who (Course a) (Course b) = a == b
same_who (Course a) (Curriculum b) = false
same_who (Curriculum a) (Course b) = false
same_who (Curriculum a) (Curriculum b) = a == b

-- Whether two patterns have the same course or curriculum, room, day and period.
abbrev pub same_pattern : Pattern → Pattern → Bool
same_pattern g h =
    same_who g.who h.who && same_option g.room h.room && same_option g.day h.day && same_option g.period h.period

-- Whether two truth values are the same.
abbrev pub same_answer : Bool → Bool → Bool
same_answer true b = b
same_answer false true = false
same_answer false false = true

-- Whether exactly this fact is on the path.
abbrev pub has_fact : List Fact → Pattern → Bool → Bool
has_fact path g holds = list_any (λ f. same_answer f.holds holds && same_pattern f.pattern g) path

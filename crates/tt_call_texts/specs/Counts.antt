-- The answer of `validate --json` for the bytes of an instance, of a solution, and of wishes if there are any.
use Rattle.std.specs.Prelude.{◌≡◌, ℕ, ◌+◌, ◌==◌, ◌&&◌, Bool, true, if◌then◌else◌, List, Option, None, Some, Err, codes, ⊤}
use Rattle.serde_json.specs.Data.{Data, null, number, unsigned, object, member, no_members}
use Rattle.tt_instance.specs.Problem.{Problem}
use Rattle.tt_instance.specs.declared.cell.Cell.{Cell}
use Rattle.tt_instance_read.specs.Reading.{instance_of}
use Rattle.tt_table.specs.Spelling.{SpellsBoth}
use Rattle.tt_rules.specs.Score.{IsScore}
use Rattle.tt_rules.specs.declared.counts.Score.{Score}
use Rattle.tt_wishes.specs.Reading.{wishes_of, Fails}
use Rattle.tt_wishes.specs.Spelling.{SpellsWishes}
use Rattle.tt_wishes.specs.Wishes.{broken_wishes}
use Rattle.tt_wishes.specs.declared.fault.WishesFault.{WishesFault}
use Rattle.tt_wishes.specs.declared.wish.Wish.{Wish}
use Rattle.tt_call_answers.specs.declared.answer.Answer.{Answer}
use Rattle.tt_call_wishes.specs.Wished.{FailsTable, FailsWishes}
use Rattle.tt_call_wishes.specs.declared.fault.ValidateFault.{ValidateFault}
use Rattle.tt_call_wishes.specs.declared.fault.ValidateFault.TheVariants as fault
use Rattle.tt_call_texts.specs.Lines.{IsLineOf}

-- A count.
abbrev pub count : ℕ → Data
count n = number (unsigned n)

-- The number of broken wishes; `null` if no wishes are given.
abbrev pub wishes_data : Option ℕ → Data
wishes_data None = null
wishes_data (Some n) = count n

-- The eight counts of a score, the sum of the hard ones, the cost, and what is said of wishes: members in the order of their names.
abbrev pub counts_with : Score → Data → Data
counts_with s wishes =
    object (member (codes "availability") (count s.availability)
    (member (codes "compactness") (count s.compactness)
    (member (codes "conflicts") (count s.conflicts)
    (member (codes "cost") (count (s.room_capacity + s.min_working_days + s.compactness + s.room_stability))
    (member (codes "hard") (count (s.lectures + s.conflicts + s.availability + s.room_occupancy))
    (member (codes "lectures") (count s.lectures)
    (member (codes "min_working_days") (count s.min_working_days)
    (member (codes "room_capacity") (count s.room_capacity)
    (member (codes "room_occupancy") (count s.room_occupancy)
    (member (codes "room_stability") (count s.room_stability)
    (member (codes "wishes") wishes no_members)))))))))))

-- The object of a score and of a number of broken wishes, if any are given.
abbrev pub counts_object : Score → Option ℕ → Data
counts_object s broken = counts_with s (wishes_data broken)

-- No wish is broken, as far as any are given.
abbrev pub has_no_broken : Option ℕ → Bool
has_no_broken None = true
has_no_broken (Some n) = n == 0

-- The answer is the line of a score and of a number of broken wishes, with status 0 if no hard rule and no wish is broken, and no file.
pub record IsCountsAnswer (s : Score) (broken : Option ℕ) (a : Answer) : Type 0 where
  pub line : IsLineOf (counts_object s broken) a.out.items
  pub status : a.status ≡ (if (s.lectures + s.conflicts + s.availability + s.room_occupancy == 0) && has_no_broken broken then 0 else 1)
  pub no_table : a.table ≡ None
  pub no_proof : a.proof ≡ None

-- The bytes spell wishes, of which the timetable breaks so many.
pub record BreaksWishes (p : Problem) (t : List Cell) (wishes : List ℕ) (n : ℕ) : Type 0 where
  pub listed : List Wish
  pub spelled : SpellsWishes p wishes listed
  pub broken : n ≡ broken_wishes t listed

-- The number of broken wishes, if there are bytes of wishes.
abbrev pub AreBroken : Problem → List Cell → Option (List ℕ) → Option ℕ → Type 0
AreBroken p t None broken = broken ≡ None
AreBroken p t (Some wishes) None = ⊥
AreBroken p t (Some wishes) (Some n) = BreaksWishes p t wishes n

-- The answer has the timetable's score and the number of wishes that it breaks.
pub record IsCounted (instance solution : List ℕ) (wishes : Option (List ℕ)) (a : Answer) : Type 0 where
  pub problem : Problem
  pub table : List Cell
  pub score : Score
  pub broken : Option ℕ
  pub both : SpellsBoth instance solution problem table
  pub scored : IsScore problem table score
  pub counted : AreBroken problem table wishes broken
  pub answer : IsCountsAnswer score broken a

-- There are bytes of wishes, and they have this error, if it isn't that memory ran out.
abbrev pub FailsGiven : Problem → Option (List ℕ) → WishesFault → Type 0
FailsGiven p None f = ⊥
FailsGiven p (Some wishes) f = Fails f (wishes_of p wishes)

-- There are bytes of wishes, instance and solution are spelled, and the wishes have this error.
abbrev pub FailsLast : List ℕ → List ℕ → Option (List ℕ) → WishesFault → Type 0
FailsLast i s None f = ⊥
FailsLast i s (Some wishes) f = FailsWishes i s wishes f

-- A refusal reports the first error: the instance's, then the solution's, then that of the wishes.
abbrev pub IsCountsRefusal : List ℕ → List ℕ → Option (List ℕ) → ValidateFault → Type 0
IsCountsRefusal i s wishes (fault.Instance f) = instance_of i ≡ Err f
IsCountsRefusal i s wishes (fault.Solution f) = FailsTable i s f
IsCountsRefusal i s wishes (fault.Wishes f) = FailsLast i s wishes f
IsCountsRefusal i s wishes fault.OutOfMemory = ⊤

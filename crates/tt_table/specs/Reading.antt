-- The result of reading a solution: its entries, or the first fault from the left. All checks of one token come before the next token.
use Rattle.std.specs.Prelude.{ℕ, zero, suc, ◌-◌, Bool, true, false, List, [], ◌∷◌, ◌++◌, length, Option, Some, None, Result, Ok, Err}
use Rattle.tt_text.specs.Tokens.{Placed, tokens_of}
use Rattle.tt_text.specs.Texts.{index_of_name}
use Rattle.tt_text.specs.Numbers.{number_of}
use Rattle.tt_text.specs.Reading.{◌>>=◌, FailsUnless, AgreesUnless, token_or}
use Rattle.tt_text.specs.declared.numbers.NumberFault.{NumberFault}
use Rattle.tt_text.specs.declared.numbers.NumberFault.TheVariants as number
use Rattle.tt_instance.specs.Problem.{Problem}
use Rattle.tt_instance.specs.Courses.{course_ids, room_ids}
use Rattle.tt_instance.specs.declared.cell.Cell.{Cell}
use Rattle.tt_table.specs.declared.fault.SolutionFault.{SolutionFault}
use Rattle.tt_table.specs.declared.fault.SolutionFault.TheVariants as fault
use Rattle.tt_table.specs.declared.table.TheConstants.{MAX_ENTRIES}

-- Being out of memory says nothing about the bytes.
abbrev pub is_environmental : SolutionFault → Bool
is_environmental fault.OutOfMemory = true
is_environmental _ = false

-- The text has exactly this fault. Being out of memory says nothing about the text.
abbrev pub Fails : {Y : Type 0} → SolutionFault → Result Y SolutionFault → Type 0
Fails e read = FailsUnless is_environmental e read

-- The result, seen by `view`, is the one that the text gives. A result of being out of memory says nothing about the text.
abbrev pub Gives : {X Y : Type 0} → (X → Y) → Result X SolutionFault → Result Y SolutionFault → Type 0
Gives view result read = AgreesUnless is_environmental view result read

-- The next token of a text of `end` bytes.
abbrev pub token_at : ℕ → List Placed → Result (Placed × List Placed) SolutionFault
token_at end ts = token_or (fault.Ended end) ts

-- The number, if there is one, or else this fault.
abbrev pub found : SolutionFault → Option ℕ → Result ℕ SolutionFault
found e None = Err e
found e (Some i) = Ok i

-- The number of a token below a bound, or its fault.
abbrev pub below : ℕ → Result ℕ NumberFault → Result ℕ SolutionFault
below at (Ok n) = Ok n
below at (Err number.NotANumber) = Err (fault.NotANumber at)
below at (Err number.TooLarge) = Err (fault.OutOfRange at)

-- A number below a bound.
unfoldable pub index_at : ℕ → ℕ → List Placed → Result (ℕ × List Placed) SolutionFault
index_at end bound ts = do
  t ← token_at end ts
  n ← below t.0.at (number_of (bound - 1) t.0.text)
  Ok (n, t.1)

-- An entry whose first token has been taken.
unfoldable pub entry_at : ℕ → Problem → Placed → List Placed → Result (Cell × List Placed) SolutionFault
entry_at end p first ts = do
  course ← found (fault.UnknownCourse first.at) (index_of_name (course_ids p) first.text)
  t ← token_at end ts
  room ← found (fault.UnknownRoom t.0.at) (index_of_name (room_ids p) t.0.text)
  day ← index_at end p.days t.1
  period ← index_at end p.periods day.1
  Ok (record { course = course; room = room; day = day.0; period = period.0 }, period.1)

-- The entries after those before; n more are allowed.
unfoldable pub entries_at : ℕ → Problem → ℕ → List Cell → List Placed → Result (List Cell) SolutionFault
entries_at end p n before [] = Ok before
entries_at end p zero before (t ∷ ts) = Err (fault.TooMany t.at)
entries_at end p (suc n) before (t ∷ ts) = do
  e ← entry_at end p t ts
  entries_at end p n (before ++ e.0 ∷ []) e.1

-- The timetable that bytes spell, or their first fault.
unfoldable pub solution_of : Problem → List ℕ → Result (List Cell) SolutionFault
solution_of p bytes = entries_at (length bytes) p MAX_ENTRIES [] (tokens_of bytes)

-- The names of days and periods: how a text gives them, and what a page shows for a day and for a period.
use Rattle.std.specs.Prelude.{ℕ, ◌+◌, ◌==◌, Bool, true, false, List, [], ◌∷◌, ◌++◌, length, codes, slice_get, Option, Some, None, Result, Ok, Err, if◌then◌else◌}
use Rattle.tt_text.specs.Pieces.{Text, Number}
use Rattle.tt_text.specs.Reading.{◌>>=◌, AgreesUnless}
use Rattle.tt_page_text.specs.Shown.{shown}
use Rattle.tt_page_text.specs.Markup.{markup}
use Rattle.tt_page_text.specs.Labelled.{Labelled}
use Rattle.tt_page_text.specs.declared.fault.LabelsFault.{LabelsFault}
use Rattle.tt_page_text.specs.declared.fault.LabelsFault.TheVariants as fault

-- ---- the names in a text

-- The byte of a comma, which separates names.
abbrev pub comma : ℕ
comma = 44

-- The names in a text, of which the first begins with these letters.
abbrev pub names_from : List ℕ → List ℕ → List (List ℕ)
names_from name [] = name ∷ []
names_from name (c ∷ cs) = if c == comma then name ∷ names_from [] cs else names_from (name ++ c ∷ []) cs

-- The names in a text: what is between its commas.
abbrev pub names_in : List ℕ → List (List ℕ)
names_in text = names_from [] text

-- The names of a text that has to have this many; no text gives no names.
unfoldable pub names_of : LabelsFault → ℕ → Option (List ℕ) → Result (List (List ℕ)) LabelsFault
names_of f n None = Ok []
names_of f n (Some text) = if length (names_in text) == n then Ok (names_in text) else Err f

-- The names of this many days and of this many periods of a day; the days' names are checked first.
unfoldable pub labels_of : ℕ → ℕ → Option (List ℕ) → Option (List ℕ) → Result Labelled LabelsFault
labels_of days periods day_names period_names =
    names_of fault.Days days day_names >>= (λ ds. names_of fault.Periods periods period_names >>= (λ ps. Ok (record { days = ds; periods = ps })))

-- Memory that ran out says nothing about the names.
abbrev pub is_environmental : LabelsFault → Bool
is_environmental fault.OutOfMemory = true
is_environmental _ = false

-- The result is what the definition gives, except where memory ran out.
abbrev pub Gives : {X Y : Type 0} → (X → Y) → Result X LabelsFault → Result Y LabelsFault → Type 0
Gives view result read = AgreesUnless is_environmental view result read

-- No names: days and periods are counted from 1.
abbrev pub no_labels : Labelled
no_labels = record { days = []; periods = [] }

-- ---- what a page shows

-- The name of a day as a page shows it, or the word "Day" and its number, counted from 1, if it has none.
abbrev pub day_named : ℕ → Option (List ℕ) → List ℕ
day_named d (Some name) = shown name
day_named d None = markup (Text (codes "Day ") ∷ Number (d + 1) ∷ [])

-- The name of a day if it has one.
unfoldable pub day_text : Labelled → ℕ → List ℕ
day_text labels d = day_named d (slice_get labels.days d)

-- The name of a period as a page shows it, or its number, counted from 1, if it has none.
abbrev pub period_named : ℕ → Option (List ℕ) → List ℕ
period_named s (Some name) = shown name
period_named s None = markup (Number (s + 1) ∷ [])

-- The name of a period if it has one.
unfoldable pub period_text : Labelled → ℕ → List ℕ
period_text labels s = period_named s (slice_get labels.periods s)

-- The name of a period as a page shows it, or the word "period" and its number, counted from 1, if it has none.
abbrev pub period_behind : ℕ → Option (List ℕ) → List ℕ
period_behind s (Some name) = shown name
period_behind s None = markup (Text (codes "period ") ∷ Number (s + 1) ∷ [])

-- A period behind its day: the name of the period if it has one, else the word "period" and its number.
unfoldable pub behind_text : Labelled → ℕ → List ℕ
behind_text labels s = period_behind s (slice_get labels.periods s)

-- A day and a period of it, as "Mon, 8:00" or "Day 1, period 3".
unfoldable pub when_text : Labelled → ℕ → ℕ → List ℕ
when_text labels d s = day_text labels d ++ codes ", " ++ behind_text labels s

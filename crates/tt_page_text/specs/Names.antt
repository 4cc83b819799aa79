-- A day and a period of it in a string of a style, by their names if they have some.
use Rattle.std.specs.Prelude.{ℕ, ◌+◌, List, [], ◌∷◌, ◌++◌, codes, slice_get, Option, Some, None}
use Rattle.tt_text.specs.Pieces.{Text, Number}
use Rattle.tt_page_text.specs.Labelled.{Labelled}
use Rattle.tt_page_text.specs.Labels.{names_in}
use Rattle.tt_page_text.specs.Markup.{markup}
use Rattle.tt_page_text.specs.Quoted.{quoted}

-- The names in a text; no text gives no names.
abbrev pub listed : Option (List ℕ) → List (List ℕ)
listed None = []
listed (Some text) = names_in text

-- The names of the days and of the periods of a day.
abbrev pub names_given : Option (List ℕ) → Option (List ℕ) → Labelled
names_given day_names period_names = record { days = listed day_names; periods = listed period_names }

-- A name, or a word and a number, counted from 1, if there is none.
abbrev pub quoted_name : List ℕ → ℕ → Option (List ℕ) → List ℕ
quoted_name word n (Some name) = quoted name
quoted_name word n None = markup (Text word ∷ Number (n + 1) ∷ [])

-- The name of a day if it has one, else the word "Day" and its number, counted from 1.
unfoldable pub quoted_day : Labelled → ℕ → List ℕ
quoted_day names d = quoted_name (codes "Day ") d (slice_get names.days d)

-- The name of a period if it has one, else the word "period" and its number, counted from 1.
unfoldable pub quoted_period : Labelled → ℕ → List ℕ
quoted_period names s = quoted_name (codes "period ") s (slice_get names.periods s)

-- A day and a period of it, as "Mon, 8:00" or "Day 1, period 3".
unfoldable pub quoted_when : Labelled → ℕ → ℕ → List ℕ
quoted_when names d s = quoted_day names d ++ codes ", " ++ quoted_period names s

-- The result of reading wishes: the wishes, or the first fault from the left. All checks of one word come before the next word.
use Rattle.std.specs.Prelude.{ℕ, ◌-◌, ◌==◌, Bool, true, false, nat_le, List, [], ◌∷◌, ◌++◌, length, Option, Some, None, Result, Ok, Err, codes, if◌then◌else◌}
use Rattle.tt_text.specs.Tokens.{Placed}
use Rattle.tt_text.specs.Texts.{index_of_name, is_text}
use Rattle.tt_text.specs.Numbers.{number_of}
use Rattle.tt_text.specs.Reading.{◌>>=◌, FailsUnless, AgreesUnless, token_or}
use Rattle.tt_text.specs.declared.numbers.NumberFault.{NumberFault}
use Rattle.tt_text.specs.declared.numbers.NumberFault.TheVariants as number
use Rattle.tt_instance.specs.Problem.{Problem}
use Rattle.tt_instance.specs.Courses.{course_ids, room_ids}
use Rattle.tt_wishes.specs.Lines.{Row, rows_of}
use Rattle.tt_wishes.specs.declared.fault.WishesFault.{WishesFault}
use Rattle.tt_wishes.specs.declared.fault.WishesFault.TheVariants as fault
use Rattle.tt_wishes.specs.declared.format.TheConstants.{MAX_WISHES}
use Rattle.tt_wishes.specs.declared.reading.WishWord.{WishWord}
use Rattle.tt_wishes.specs.declared.reading.WishWord.TheVariants as word
use Rattle.tt_wishes.specs.declared.wish.Place.{Place}
use Rattle.tt_wishes.specs.declared.wish.Wish.{Wish}
use Rattle.tt_wishes.specs.declared.wish.Wish.TheVariants as wish

-- Being out of memory says nothing about the bytes.
abbrev pub is_environmental : WishesFault → Bool
is_environmental fault.OutOfMemory = true
is_environmental _ = false

-- The text has exactly this fault. Being out of memory says nothing about the text.
abbrev pub Fails : {Y : Type 0} → WishesFault → Result Y WishesFault → Type 0
Fails e read = FailsUnless is_environmental e read

-- The result, seen by `view`, is the one that the text gives. A result of being out of memory says nothing about the text.
abbrev pub Gives : {X Y : Type 0} → (X → Y) → Result X WishesFault → Result Y WishesFault → Type 0
Gives view result read = AgreesUnless is_environmental view result read

-- The next word of a line that ends at this offset.
abbrev pub word_at : ℕ → List Placed → Result (Placed × List Placed) WishesFault
word_at end ts = token_or (fault.Ended end) ts

-- The number, if there is one, or else this fault.
abbrev pub found : WishesFault → Option ℕ → Result ℕ WishesFault
found e None = Err e
found e (Some i) = Ok i

-- The number of a word below a bound, or its fault.
abbrev pub below : ℕ → Result ℕ NumberFault → Result ℕ WishesFault
below at (Ok n) = Ok n
below at (Err number.NotANumber) = Err (fault.NotANumber at)
below at (Err number.TooLarge) = Err (fault.OutOfRange at)

-- ---- the parts of a wish

-- Whether the text says that a part is free.
abbrev pub is_free : List ℕ → Bool
is_free text = is_text (codes "*") text

-- The room that a word names.
abbrev pub room_of : Problem → Placed → Result ℕ WishesFault
room_of p t = found (fault.UnknownRoom t.at) (index_of_name (room_ids p) t.text)

-- The room that a word names, or none if it says that the room is free.
abbrev pub free_room_of : Problem → Placed → Result (Option ℕ) WishesFault
free_room_of p t = if is_free t.text then Ok None else (room_of p t >>= λ r. Ok (Some r))

-- The number below a bound that a word spells, or none if it says that the number is free.
abbrev pub free_index_of : ℕ → Placed → Result (Option ℕ) WishesFault
free_index_of bound t = if is_free t.text then Ok None else (below t.at (number_of (bound - 1) t.text) >>= λ n. Ok (Some n))

-- The name of a course.
unfoldable pub course_at : ℕ → Problem → List Placed → Result (ℕ × List Placed) WishesFault
course_at end p ts = do
  t ← word_at end ts
  course ← found (fault.UnknownCourse t.0.at) (index_of_name (course_ids p) t.0.text)
  Ok (course, t.1)

-- A room, a day and a period, each of which may be free.
unfoldable pub place_at : ℕ → Problem → List Placed → Result (Place × List Placed) WishesFault
place_at end p ts = do
  r ← word_at end ts
  room ← free_room_of p r.0
  d ← word_at end r.1
  day ← free_index_of p.days d.0
  s ← word_at end d.1
  period ← free_index_of p.periods s.0
  Ok (record { room = room; day = day; period = period }, s.1)

-- The rooms that all words name, after those before.
unfoldable pub rooms_after : Problem → List ℕ → List Placed → Result (List ℕ) WishesFault
rooms_after p before [] = Ok before
rooms_after p before (t ∷ ts) = do
  room ← room_of p t
  rooms_after p (before ++ room ∷ []) ts

-- The rooms; if there is none, the line has ended too early.
abbrev pub some_of : ℕ → List ℕ → Result (List ℕ) WishesFault
some_of end rooms = if length rooms == 0 then Err (fault.Ended end) else Ok rooms

-- No word.
unfoldable pub nothing_at : List Placed → Result (List Placed) WishesFault
nothing_at [] = Ok []
nothing_at (t ∷ ts) = Err (fault.TooMany t.at)

-- ---- a wish

-- A lecture that stays, after its first word.
unfoldable pub hold_at : ℕ → Problem → List Placed → Result Wish WishesFault
hold_at end p ts = do
  c ← course_at end p ts
  g ← place_at end p c.1
  rest ← nothing_at g.1
  Ok (wish.Hold c.0 g.0)

-- The rooms of a course, after the first word.
unfoldable pub only_in_at : ℕ → Problem → List Placed → Result Wish WishesFault
only_in_at end p ts = do
  c ← course_at end p ts
  all ← rooms_after p [] c.1
  rooms ← some_of end all
  Ok (wish.Rooms c.0 rooms)

-- A place that stays empty, after its first word.
unfoldable pub closed_at : ℕ → Problem → List Placed → Result Wish WishesFault
closed_at end p ts = do
  g ← place_at end p ts
  rest ← nothing_at g.1
  Ok (wish.Closed g.0)

-- The kind of wish that a first word names.
abbrev pub wish_word_of : Placed → Result WishWord WishesFault
wish_word_of t =
    if is_text (codes "hold") t.text then Ok word.Hold
    else (if is_text (codes "room") t.text then Ok word.Room
    else (if is_text (codes "closed") t.text then Ok word.Closed else Err (fault.UnknownWord t.at)))

-- A wish of this kind, after its first word.
abbrev pub wish_of : WishWord → ℕ → Problem → List Placed → Result Wish WishesFault
wish_of word.Hold end p ts = hold_at end p ts
wish_of word.Room end p ts = only_in_at end p ts
wish_of word.Closed end p ts = closed_at end p ts

-- A wish whose first word has been taken.
unfoldable pub wish_at : ℕ → Problem → Placed → List Placed → Result Wish WishesFault
wish_at end p first ts = do
  kind ← wish_word_of first
  wish_of kind end p ts

-- ---- all wishes

-- The wishes with that of the words of a line that ends at this offset, if there are words.
abbrev pub with_words : Problem → List Wish → ℕ → List Placed → Result (List Wish) WishesFault
with_words p before end [] = Ok before
with_words p before end (t ∷ ts) =
    if nat_le MAX_WISHES (length before) then Err (fault.TooManyWishes t.at) else (wish_at end p t ts >>= λ w. Ok (before ++ w ∷ []))

-- The wishes with that of another row.
abbrev pub with_row : Problem → List Wish → Row → Result (List Wish) WishesFault
with_row p before row = with_words p before row.end row.words

-- The wishes with those of more rows.
unfoldable pub wishes_after : Problem → List Wish → List Row → Result (List Wish) WishesFault
wishes_after p before [] = Ok before
wishes_after p before (row ∷ rows) = do
  ws ← with_row p before row
  wishes_after p ws rows

-- The wishes that bytes spell, or their first fault.
unfoldable pub wishes_of : Problem → List ℕ → Result (List Wish) WishesFault
wishes_of p bytes = wishes_after p [] (rows_of bytes)

-- Which wishes the bytes of a file spell.
use Rattle.std.specs.Prelude.{◌≢◌, ℕ, ◌<◌, ◌≤◌, Bool, true, false, List, [], ◌∷◌, length, map, filter, slice_index_or, Option, Some, None, IfSome, All, codes}
use Rattle.std.specs.List.{AllZip}
use Rattle.tt_text.specs.Tokens.{Placed}
use Rattle.tt_text.specs.Pieces.{Piece, Text, Number, Begins}
use Rattle.tt_instance.specs.Problem.{Problem}
use Rattle.tt_instance.specs.Courses.{no_room}
use Rattle.tt_instance.specs.Spelling.{named}
use Rattle.tt_wishes.specs.Lines.{Row, rows_of}
use Rattle.tt_wishes.specs.declared.format.TheConstants.{MAX_WISHES}
use Rattle.tt_wishes.specs.declared.wish.Place.{Place}
use Rattle.tt_wishes.specs.declared.wish.Wish.{Wish}
use Rattle.tt_wishes.specs.declared.wish.Wish.TheVariants.{Hold, Rooms, Closed}

-- The name of a room.
abbrev pub room_name : Problem → ℕ → List ℕ
room_name p r = (slice_index_or p.rooms r no_room).id

-- A room is spelled by its name; `*` says that the room is free.
abbrev pub room_piece : Problem → Option ℕ → Piece
room_piece p None = Text (codes "*")
room_piece p (Some r) = Text (room_name p r)

-- A day or a period is spelled by its number; `*` says that it is free.
abbrev pub index_piece : Option ℕ → Piece
index_piece None = Text (codes "*")
index_piece (Some n) = Number n

-- A place is spelled as a room, a day and a period.
abbrev pub place_pieces : Problem → Place → List Piece
place_pieces p g = room_piece p g.room ∷ index_piece g.day ∷ index_piece g.period ∷ []

-- A wish is spelled as its word and its parts.
abbrev pub wish_pieces : Problem → Wish → List Piece
wish_pieces p (Hold c g) = Text (codes "hold") ∷ named p.courses c ∷ place_pieces p g
wish_pieces p (Rooms c rooms) = Text (codes "room") ∷ named p.courses c ∷ map (λ r. Text (room_name p r)) rooms
wish_pieces p (Closed g) = Text (codes "closed") ∷ place_pieces p g

-- The numbers of a place are in the range of the instance. Since `*` says that the room is free, no place can give a room with the name `*`.
pub record IsPlace (p : Problem) (g : Place) : Type 0 where
  pub room : IfSome g.room (λ r. (r < length p.rooms) × (room_name p r ≢ codes "*"))
  pub day : IfSome g.day (λ d. d < p.days)
  pub period : IfSome g.period (λ s. s < p.periods)

-- The rooms are in the range of the instance, and there is at least one.
pub record AreRooms (p : Problem) (rooms : List ℕ) : Type 0 where
  pub some : 0 < length rooms
  pub each : All (λ r. r < length p.rooms) rooms

-- The numbers of a wish are in the range of the instance.
abbrev pub IsWish : Problem → Wish → Type 0
IsWish p (Hold c g) = (c < length p.courses) × IsPlace p g
IsWish p (Rooms c rooms) = (c < length p.courses) × AreRooms p rooms
IsWish p (Closed g) = IsPlace p g

-- Each of the wishes is one of the instance.
abbrev pub AreWishes : Problem → List Wish → Type 0
AreWishes p ws = All (IsWish p) ws

-- The words of the row are exactly those of the wish.
pub record SpellsWish (p : Problem) (row : Row) (w : Wish) : Type 0 where
  pub words : Begins (wish_pieces p w) row.words []
  pub is : IsWish p w

-- Whether there are words.
abbrev pub are_some : List Placed → Bool
are_some [] = false
are_some (t ∷ ts) = true

-- Whether the row has words.
abbrev pub has_words : Row → Bool
has_words row = are_some row.words

-- Each line of the bytes that has words spells one of the wishes, in their order.
pub record SpellsWishes (p : Problem) (bytes : List ℕ) (ws : List Wish) : Type 0 where
  pub rows : AllZip (SpellsWish p) (filter has_words (rows_of bytes)) ws
  pub at_most : length ws ≤ MAX_WISHES

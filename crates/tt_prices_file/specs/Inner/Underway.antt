-- A file of groups with prices that is read part by part.
use Rattle.std.specs.Prelude.{◌≡◌, ℕ, ◌+◌, ◌≤◌, true, false, is_some, List, Option, None, Ok, All, length}
use Rattle.tt_text.specs.CutShort.{cut_at, MayFail}
use Rattle.tt_text.specs.Feeds.{Stream, stream_at, fresh, room_of}
use Rattle.tt_text.specs.declared.feed.TheConstants.{MAX_BYTES}
use Rattle.tt_instance.specs.Problem.{Problem}
use Rattle.tt_proof_check.specs.Streams.{sizes_of}
use Rattle.tt_proof_read.specs.Answers.{StaysKnown}
use Rattle.tt_prices_text.specs.Readers.{IsHeader, Reader}
use Rattle.tt_prices_text.specs.Reading.{Part, header_at}
use Rattle.tt_prices_text.specs.Reads.{ReadsParts}
use Rattle.tt_prices_text.specs.Spelling.{IsPart}
use Rattle.tt_prices_text.specs.declared.header.Header.{Header}
use Rattle.tt_prices_text.specs.declared.item.Item.{Item}
use Rattle.tt_prices_text.specs.declared.item.Item.TheVariants as item
use Rattle.tt_groups.specs.Rows.{group_of}
use Rattle.tt_prices_file.specs.Inner.Accounts.{IsAccountOf, ExplainsGroup, ExplainsRent}
use Rattle.tt_prices_file.specs.declared.account.Account.{Account}
use Rattle.tt_prices_file.specs.declared.fault.PricesFault.{PricesFault}

-- The fault refuses a group or the rents of a room.
abbrev pub ExplainsItem : Problem → Header → Account → Item → PricesFault → Type 0
ExplainsItem p h a (item.Group g) f = ExplainsGroup p h.scale a (group_of g) f
ExplainsItem p h a (item.Rent r) f = ExplainsRent a r.room f

-- The stream is this header and these parts, and then `rest`.
pub record ReadsTo (p : Problem) (s : Stream) (h : Header) (parts : List Part) (rest : Stream) : Type 0 where
  pub headed : Stream
  pub header : header_at s ≡ Ok (h, headed)
  pub reads : ReadsParts (sizes_of p) h.has_rooms headed parts rest

-- A reader has reached this place of a source, and the account this state.
pub record Underway (p : Problem) (before : Option (List ℕ)) (r : Reader) (now : Option (List ℕ)) (a : Account) : Type 0 where
  pub parts : List Part
  pub known : StaysKnown before now
  pub reads : is_some before ≡ true → ReadsTo p (stream_at fresh before) r.header parts (stream_at r.fed now)
  pub cut : is_some before ≡ true → (rest : List ℕ) → MayFail rest r.fed now
      → MayFail rest fresh before × ReadsTo p (cut_at rest fresh before) r.header parts (cut_at rest r.fed now)
  pub goes_on : r.over ≡ false
  pub sound : r.fault ≡ None
  pub sizes : r.sizes ≡ sizes_of p
  pub header : IsHeader r.header
  pub each : All (IsPart (sizes_of p) r.header.has_rooms) parts
  pub account : IsAccountOf p r.header parts a
  pub room : length parts + room_of r.fed ≤ MAX_BYTES

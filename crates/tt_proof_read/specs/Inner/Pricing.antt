-- The prices that a claim lists.
use Rattle.std.specs.Prelude.{◌≡◌, ℕ, ◌<◌, ◌≤◌, false, [], ◌∷◌, ◌++◌, All}
use Rattle.tt_list_laws.specs.Words.{has_number}
use Rattle.tt_leaf.specs.Ranges.{ArePrices}
use Rattle.tt_proof_read.specs.declared.format.TheConstants.{MAX_PRICE}
use Rattle.tt_proof_read.specs.Reading.{PriceLists, Seen}
use Rattle.tt_proof_read.specs.declared.prices.Priced.{Priced}
use Rattle.tt_proof_read.specs.declared.prices.Priced.TheVariants.{Course, Room}
use Rattle.tt_proof_read.specs.declared.prices.Prices.{Prices}
use Rattle.tt_proof_read.specs.declared.sizes.Sizes.{Sizes}
use Rattle.tt_proof_read.specs.declared.tables.Tables.{Tables}

-- The prices as two lists.
abbrev pub price_lists_of : Prices → PriceLists
price_lists_of prices = (prices.courses.items, prices.rooms.items)

-- The numbers in the tables.
abbrev pub seen_of : Tables → Seen
seen_of tables = (tables.courses.numbers, tables.rooms.numbers)

-- The courses and rooms seen so far, and another course or room.
abbrev pub with_seen : Seen → Priced → Seen
with_seen seen (Course c) = (seen.0 ++ c ∷ [], seen.1)
with_seen seen (Room r) = (seen.0, seen.1 ++ r ∷ [])

-- The tables have a place for each course and each room.
pub record AreTables (sizes : Sizes) (tables : Tables) : Type 0 where
  pub courses : tables.courses.count ≡ sizes.courses
  pub rooms : tables.rooms.count ≡ sizes.rooms

-- Its number is below the count of its kind.
abbrev pub IsIn : ℕ → ℕ → Priced → Type 0
IsIn courses rooms (Course c) = c < courses
IsIn courses rooms (Room r) = r < rooms

-- A course or a room of the instance that hasn't been seen.
abbrev pub IsUnseen : Sizes → Seen → Priced → Type 0
IsUnseen sizes seen (Course c) = (c < sizes.courses) × (has_number seen.0 c ≡ false)
IsUnseen sizes seen (Room r) = (r < sizes.rooms) × (has_number seen.1 r ≡ false)

-- No course and no room occurs twice, and each price is within its limit.
pub record ArePriceLists (sizes : Sizes) (kept : PriceLists) : Type 0 where
  pub courses : ArePrices sizes.courses kept.0
  pub rooms : ArePrices sizes.rooms kept.1
  pub course_prices : All (λ k. k.1 ≤ MAX_PRICE) kept.0
  pub room_prices : All (λ k. k.1 ≤ MAX_PRICE) kept.1

-- A table of the rents of rooms, as far as a file has been read.
use Rattle.std.specs.Prelude.{◌≡◌, ℕ, ◌+◌, ◌*◌, ◌<◌, ◌≤◌, List, map, length, slice_index, All}
use Rattle.tt_instance.specs.Problem.{Problem}
use Rattle.tt_instance.specs.Cells.{slot}
use Rattle.tt_prices_text.specs.Reading.{RoomRents}
use Rattle.tt_prices_text.specs.declared.format.TheConstants.{MAX_AMOUNT}
use Rattle.tt_prices_file.specs.Files.{rent_at}
use Rattle.tt_prices_file.specs.declared.rents.RentTable.{RentTable}

-- The table has the rents of these rooms in each period.
pub record IsRentTable (p : Problem) (xs : List RoomRents) (t : RentTable) : Type 0 where
  pub slots : t.slots ≡ p.days * p.periods
  pub whole : length t.prices.rents.items ≡ length p.rooms * t.slots
  pub small : All (λ n. n ≤ MAX_AMOUNT) t.prices.rents.items
  pub rooms : t.rooms.items ≡ map (λ x. x.room) xs
  pub rents : (r d s : ℕ) → r < length p.rooms → d < p.days → s < p.periods
      → slice_index t.prices.rents.items (r * t.slots + (d * p.periods + s)) ≡ rent_at p.periods xs r (slot d s)

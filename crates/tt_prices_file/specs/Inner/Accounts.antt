-- What a file adds up to, as far as it has been read.
use Rattle.std.specs.Prelude.{◌≡◌, ℕ, ◌*◌, ◌^◌, Bool, ◌||◌, true, false, List, map, length, All, Some, ℤ}
use Rattle.std.specs.List.{list_any}
use Rattle.tt_list_laws.specs.Words.{has_number}
use Rattle.tt_instance.specs.Problem.{Problem}
use Rattle.tt_groups.specs.Limits.{IsWithin}
use Rattle.tt_groups.specs.Prices.{PricedGroup}
use Rattle.tt_groups.specs.Signed.{signed_sum}
use Rattle.tt_prices_check.specs.Groups.{IsLeast}
use Rattle.tt_prices_text.specs.Reading.{Part}
use Rattle.tt_prices_text.specs.declared.header.Header.{Header}
use Rattle.tt_prices_file.specs.Faults.{Pass, IsFirstWithTooFewPlaces, IsTooCheap}
use Rattle.tt_prices_file.specs.Files.{groups_of, curricula_in, courses_in, rents_in, room_scale}
use Rattle.tt_prices_file.specs.Inner.Groups.{IsGroupFault}
use Rattle.tt_prices_file.specs.Inner.Rents.{IsRentTable}
use Rattle.tt_prices_file.specs.Inner.Tables.{IsPriceTable}
use Rattle.tt_prices_file.specs.declared.account.Account.{Account}
use Rattle.tt_prices_file.specs.declared.fault.PricesFault.{PricesFault}
use Rattle.tt_prices_file.specs.declared.fault.PricesFault.TheVariants as fault

-- The number is what these groups pay at least, added up.
pub record IsLeastSumOf (p : Problem) (scale : ℕ) (groups : List PricedGroup) (total : ℤ) : Type 0 where
  pub least : List (PricedGroup × ℤ)
  pub groups_are : map (λ g. g.0) least ≡ groups
  pub each : All (λ g. IsLeast p scale g.0 (Some g.1)) least
  pub adds_up : total ≡ signed_sum (λ g. g.1) least

-- The account is the one of these parts, which pass.
pub record IsAccountOf (p : Problem) (h : Header) (parts : List Part) (a : Account) : Type 0 where
  pub passed : Pass p h parts
  pub curricula : a.targets.curricula.items ≡ curricula_in parts
  pub courses : a.targets.courses.items ≡ courses_in parts
  pub prices : IsPriceTable p (groups_of p parts) a.prices
  pub rents : IsRentTable p (rents_in parts) a.rents
  pub scale : a.rents.prices.scale ≡ room_scale h
  pub counted : a.groups ≡ length (groups_of p parts)
  pub least : IsLeastSumOf p h.scale (groups_of p parts) a.total
  pub within : IsWithin (length (groups_of p parts) * 2 ^ 58) a.total

-- Whether a target of the group is listed already.
abbrev pub has_listed : Account → PricedGroup → Bool
has_listed a g = list_any (has_number a.targets.curricula.items) g.curricula || list_any (has_number a.targets.courses.items) g.courses

-- The fault refuses the next group.
abbrev pub ExplainsGroup : Problem → ℕ → Account → PricedGroup → PricesFault → Type 0
ExplainsGroup p scale a g (fault.ClaimedTwice i) = (i ≡ a.groups) × (has_listed a g ≡ true)
ExplainsGroup p scale a g (fault.Group i f) = IsGroupFault p scale g a.groups (fault.Group i f) × (has_listed a g ≡ false)
ExplainsGroup p scale a g (fault.NoTimetable i) = IsGroupFault p scale g a.groups (fault.NoTimetable i) × (has_listed a g ≡ false)
ExplainsGroup p scale a g _ = ⊥

-- The fault says that the room has rents already.
abbrev pub ExplainsRent : Account → ℕ → PricesFault → Type 0
ExplainsRent a room (fault.RentedTwice r) = (r ≡ room) × (has_number a.rents.rooms.items room ≡ true)
ExplainsRent a room _ = ⊥

-- The fault says which course is the first with too few places, or that the total is too low.
abbrev pub ExplainsEnd : Problem → Header → List Part → PricesFault → Type 0
ExplainsEnd p h parts (fault.TooFewPlaces c) = IsFirstWithTooFewPlaces p c
ExplainsEnd p h parts fault.TooCheap = IsTooCheap p h parts
ExplainsEnd p h parts _ = ⊥

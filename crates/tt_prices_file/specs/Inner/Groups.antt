-- The refusal of one group of a file.
use Rattle.std.specs.Prelude.{◌≡◌, ℕ, None}
use Rattle.tt_text.specs.Stops.{mapped}
use Rattle.tt_text.specs.declared.stop.Stop.{Stop}
use Rattle.tt_instance.specs.Problem.{Problem}
use Rattle.tt_groups.specs.Prices.{PricedGroup}
use Rattle.tt_prices_check.specs.Groups.{IsLeast, IsRefusal}
use Rattle.tt_prices_check.specs.declared.fault.PricedFault.{PricedFault}
use Rattle.tt_prices_file.specs.declared.fault.PricesFault.{PricesFault}
use Rattle.tt_prices_file.specs.declared.fault.PricesFault.TheVariants as fault

-- Why a file is stopped by the group with number i.
abbrev pub stop_from_group : ℕ → Stop PricedFault → Stop PricesFault
stop_from_group i stop = mapped (fault.Group i) stop

-- The fault refuses the group with number i, or says that the group has no relaxed timetable.
abbrev pub IsGroupFault : Problem → ℕ → PricedGroup → ℕ → PricesFault → Type 0
IsGroupFault p scale g i (fault.Group j f) = (j ≡ i) × IsRefusal p g f
IsGroupFault p scale g i (fault.NoTimetable j) = (j ≡ i) × IsLeast p scale g None
IsGroupFault p scale g i _ = ⊥

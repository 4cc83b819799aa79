use Rattle.std.proofs.Common.{◌*◌, ◌^◌, List}
use Rattle.tt_groups.specs.Limits.{IsWithin}
use Rattle.tt_groups.specs.Prices.{PricedGroup}
use Rattle.tt_prices_text.specs.Reading.{RoomRents}
use Rattle.tt_prices_file.specs.Inner.Rents.{IsRentTable}
use Rattle.tt_prices_file.specs.Inner.Tables.{IsPriceTable}
use Rattle.tt_prices_file.specs.Inner.Terms.{AreTermsBelow}
use Rattle.tt_prices_file.proofs.terms.sum_of_terms.Given as goal

abbrev pub invariant-loop-course : goal.invariant-loop-course
invariant-loop-course l = record {
  terms : (groups : List PricedGroup) (xs : List RoomRents) → IsPriceTable l.instance groups l.prices → IsRentTable l.instance xs l.rents
      → AreTermsBelow l.instance l.rents.prices.scale groups xs l.course l.total;
  small : IsWithin (l.course * 2 ^ 62) l.total;
}

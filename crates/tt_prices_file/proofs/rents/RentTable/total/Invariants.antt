use Rattle.std.proofs.Common.{◌≡◌, ◌≤◌, ◌*◌, take, sum_by}
use Rattle.tt_prices_file.proofs.rents.RentTable.total.Given as goal

abbrev pub invariant-loop-rent : goal.invariant-loop-rent
invariant-loop-rent l = record {
  total : l.total ≡ sum_by (λ n. n) (take l.rent-index l.rent-items);
  few : l.total ≤ l.rent-index * 1_000_000;
}

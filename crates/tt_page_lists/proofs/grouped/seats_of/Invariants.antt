use Rattle.std.proofs.Common.{◌≡◌, ◌≤◌, ◌+◌, ◌*◌, All, length}
use Rattle.std.specs.Prelude.{sum_by}
use Rattle.tt_instance.specs.Cells.{InRange}
use Rattle.tt_instance.specs.Courses.{excess}
use Rattle.tt_instance.specs.declared.limit.TheConstants.{MAX_SEATS}
use Rattle.tt_page_lists.proofs.grouped.seats_of.Given as goal

abbrev pub invariant-loop-entry : goal.invariant-loop-entry
invariant-loop-entry l = record {
  summed : l.total + sum_by (λ e. excess l.instance e.course e.room) l.entry-iterator ≡ sum_by
      (λ e. excess l.instance e.course e.room) l.fn.entries;
  at_most : l.total + length l.entry-iterator * MAX_SEATS ≤ length l.fn.entries * MAX_SEATS;
  left : All (InRange l.instance) l.entry-iterator;
}

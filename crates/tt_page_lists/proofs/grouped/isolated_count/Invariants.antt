use Rattle.std.proofs.Common.{◌≡◌, ◌≤◌, ◌&&◌, take}
use Rattle.std.specs.Prelude.{count_by}
use Rattle.tt_instance.specs.Courses.{in_curriculum}
use Rattle.tt_rules.specs.Soft.{is_isolated}
use Rattle.tt_page_lists.proofs.grouped.isolated_count.Given as goal

abbrev pub invariant-loop-entry : goal.invariant-loop-entry
invariant-loop-entry l = record {
  counted : l.count ≡ count_by
      (λ e. in_curriculum l.plan.problem l.curriculum e.course && is_isolated l.plan.problem l.plan.table l.curriculum e)
      (take l.entry-index l.entry-items);
  at_most : l.count ≤ l.entry-index;
}

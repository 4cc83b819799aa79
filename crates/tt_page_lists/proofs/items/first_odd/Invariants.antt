use Rattle.std.proofs.Common.{◌≡◌}
use Rattle.std.specs.Prelude.{find}
use Rattle.tt_page_lists.specs.Items.{is_odd}
use Rattle.tt_page_lists.proofs.items.first_odd.Given as goal

abbrev pub invariant-loop-other : goal.invariant-loop-other
invariant-loop-other l = find (is_odd l.instance l.rule l.entry) l.other-iterator ≡ find (is_odd l.instance l.rule l.entry) l.fn.later

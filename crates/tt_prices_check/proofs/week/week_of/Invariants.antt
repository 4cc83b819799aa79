use Rattle.std.proofs.Common.{◌≡◌, ◌≤◌, length}
use Rattle.std.specs.Prelude.{All}
use Rattle.tt_groups.specs.Rows.{group_of}
use Rattle.tt_prices_check.specs.Inner.Days.{HasDays}
use Rattle.tt_prices_check.specs.Moves.{AreReady}
use Rattle.tt_prices_check.proofs.week.week_of.Given as goal

abbrev pub invariant-loop-day : goal.invariant-loop-day
invariant-loop-day l = record {
  all : length l.week.items ≡ l.day;
  ready : All (λ m. AreReady l.digits.sizes.items l.digits.weights.items l.digits.courses m.items) l.week.items;
  each_day : HasDays l.instance l.shape.scale (group_of l.group) l.week.items;
  fewer : l.steps ≤ l.initial.steps;
}

use Rattle.std.proofs.Common.{◌+◌, ◌≤◌, length, take, sym, subst, ◌∙◌, arith}
use Rattle.std.proofs.lemmas.List.{take_all}
use Rattle.tt_groups.specs.Rows.{group_of}
use Rattle.tt_prices_file.specs.Inner.Tables.{AreRowsOf, IsGrownBy}
use Rattle.tt_prices_file.proofs.Priced.{grown_none, next_other, next_more, next_fits, next_within, grown_table}
use Rattle.tt_prices_file.proofs.prices.PriceTable.add_group.Goals as goal
use Rattle.tt_prices_file.proofs.prices.PriceTable.add_group.Goals.{then-is_concerned, else-is_concerned}

pub loop-row-init : goal.loop-row-init
loop-row-init c = grown_none c.args.instance.now (group_of c.args.group.now) c.args.self.now

pub add_row-requires-clause-fits : goal.add_row-requires-clause-fits
add_row-requires-clause-fits c =
    next_fits c.args.instance.now (group_of c.args.group.now) c.deref-row-items.result.now c.loop-row.row-index c.row-item.result
    c.row-item.is
    c.loop-row-test.true c.args.self.now c.loop-row.self
    (subst (AreRowsOf c.args.instance.now c.args.self.now.slots) (sym c.deref-row-items.ensures.value) c.requires.rows)
    c.loop-row.invariant c.requires.table.1.whole

pub add_row-requires-clause-within : goal.add_row-requires-clause-within
add_row-requires-clause-within c =
    next_within c.args.instance.now (group_of c.args.group.now) (take c.loop-row.row-index c.deref-row-items.result.now) c.args.self.now
    c.loop-row.self
    c.requires.table.0 c.loop-row.invariant c.requires.table.1 c.requires.table.2

pub loop-row-preserved : goal.loop-row-preserved
loop-row-preserved c =
    let rows = subst (AreRowsOf c.args.instance.now c.args.self.now.slots) (sym c.deref-row-items.ensures.value) c.requires.rows in
    let new = c.if-is_concerned.self in
    let grown = IsGrownBy c.args.instance.now (group_of c.args.group.now) (take (c.loop-row.row-index + 1) c.deref-row-items.result.now)
    c.args.self.now in
    elim c.if-is_concerned.branch [
      | then-is_concerned w ↦
          subst grown (sym w.self-is)
          (next_more c.args.instance.now (group_of c.args.group.now) c.deref-row-items.result.now c.loop-row.row-index c.row-item.result
          c.row-item.is
          c.loop-row-test.true c.args.self.now c.loop-row.self rows c.loop-row.invariant c.requires.table.1.whole w.add_row.new.self
          w.add_row.ensures
          (sym c.is_concerned.ensures ∙ w.if-is_concerned.true))
      | else-is_concerned w ↦
          subst grown (sym w.self-is)
          (next_other c.args.instance.now (group_of c.args.group.now) c.deref-row-items.result.now c.loop-row.row-index c.row-item.result
          c.row-item.is
          c.loop-row-test.true c.args.self.now c.loop-row.self rows c.loop-row.invariant
          (sym c.is_concerned.ensures ∙ w.if-is_concerned.false))
    ]

pub returns : goal.returns
returns c = λ groups table.
    let end : length c.deref-row-items.result.now ≤ c.loop-row.row-index = omega (arith, c.loop-row-test.false) in
    grown_table c.args.instance.now groups c.args.group.now c.args.self.now c.loop-row.self c.requires.periods table
    (subst (λ l. IsGrownBy c.args.instance.now (group_of c.args.group.now) l c.args.self.now c.loop-row.self)
    (take_all c.loop-row.row-index c.deref-row-items.result.now end ∙ c.deref-row-items.ensures.value) c.loop-row.invariant)

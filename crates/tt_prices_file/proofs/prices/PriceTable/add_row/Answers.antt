use Rattle.std.proofs.Common.{◌≡◌, ◌*◌, ◌<◌, length, refl, ap, subst, ◌∙◌, arith, to_z, of_z, w32}
use Rattle.tt_prices_file.specs.Inner.Tables.{number_at}
use Rattle.tt_prices_file.proofs.RowAdded.{adds_none, sum_fits, sum_added}
use Rattle.tt_prices_file.proofs.prices.PriceTable.add_row.Goals as goal

pub loop-period-init : goal.loop-period-init
loop-period-init c = record {
  slots = refl;
  first = adds_none c.args.self.now.sums.items c.args.row.now.prices.items (c.args.row.now.course * c.args.self.now.slots);
}

pub overflow_add-index_mut : goal.overflow_add-index_mut
overflow_add-index_mut c =
    let row = c.deref-price-items.ensures.value in
    let i = c.loop-period.period in
    sum_fits c.args.self.now.sums.items c.args.row.now.prices.items (c.args.row.now.course * c.args.self.now.slots) i
    c.loop-period.self.sums.items
    c.loop-period.invariant.first (subst (λ l. i < length l) row c.loop-period-test.true) c.requires.fits c.requires.within
    c.args.row.now.small
    c.index_mut.result.now c.from.result c.index_mut.ensures.value (c.from.ensures ∙ ap (λ l. to_z w32 (of_z w32 (number_at l i))) row)

pub loop-period-preserved : goal.loop-period-preserved
loop-period-preserved c =
    let row = c.deref-price-items.ensures.value in
    let i = c.loop-period.period in
    record {
      slots = c.loop-period.invariant.slots;
      first = sum_added c.args.self.now.sums.items c.args.row.now.prices.items (c.args.row.now.course * c.args.self.now.slots) i
          c.loop-period.self.sums.items c.loop-period.invariant.first (subst (λ l. i < length l) row c.loop-period-test.true)
          c.requires.fits
          c.requires.within c.args.row.now.small c.index_mut.result.now c.from.result c.index_mut.ensures.value
          (c.from.ensures ∙ ap (λ l. to_z w32 (of_z w32 (number_at l i))) row);
    }

pub returns : goal.returns
returns c =
    let first = c.loop-period.invariant.first in
    let stop = c.loop-period-test.false in
    let top = c.loop-period.auto.period-end in
    let long = ap length c.deref-price-items.ensures.value in
    let end : c.loop-period.period ≡ length c.args.row.now.prices.items = omega (arith, stop, top, long) in
    record {
      slots = c.loop-period.invariant.slots;
      whole = first.whole;
      added = λ j l. first.added j (omega (arith, l, end));
      before = first.before;
      after = λ k l. first.after k (omega (arith, l, end));
    }

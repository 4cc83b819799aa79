use Rattle.std.proofs.Common.{◌+◌, ◌<◌, ◌≤◌, length, get_or, take, refl, sym, ap, subst, ◌∙◌, arith, sum_by}
use Rattle.std.proofs.lemmas.List.{take_all}
use Rattle.std.proofs.lemmas.List.Elements.{All-get_or}
use Rattle.std.proofs.lemmas.List.Sums.{sum_by_more}
use Rattle.tt_prices_file.proofs.rents.RentTable.total.Goals as goal

-- the next rent is small
small_at : (c : goal.After-from-total) → c.from-total.result ≤ 1_000_000
small_at c =
    let is = c.deref-rent-items.ensures.value in
    subst (λ n. n ≤ 1_000_000) (sym (c.from-total.ensures ∙ ap (λ l. get_or l c.loop-rent.rent-index 0) is))
    (All-get_or (λ n. n ≤ 1_000_000) c.args.self.now.prices.rents.items c.loop-rent.rent-index 0
    (subst (λ l. c.loop-rent.rent-index < length l) is c.loop-rent-test.true) c.requires.small)

pub loop-rent-init : goal.loop-rent-init
loop-rent-init c = record { total = refl; few = omega arith }

pub overflow_add-total : goal.overflow_add-total
overflow_add-total c =
    let long = ap length c.deref-rent-items.ensures.value in
    let step = small_at c in
    let so_far = c.loop-rent.invariant.few in
    let top = c.requires.few in
    let here = c.loop-rent-test.true in
    record { fits = omega (arith, long, step, so_far, top, here) }

pub loop-rent-preserved : goal.loop-rent-preserved
loop-rent-preserved c =
    let step = small_at c in
    let so_far = c.loop-rent.invariant.few in
    record {
      total = ap (λ n. n + c.from-total.result) c.loop-rent.invariant.total
          ∙ ap (λ n. sum_by (λ k. k) (take c.loop-rent.rent-index c.deref-rent-items.result.now) + n) c.from-total.ensures
          ∙ sym (sum_by_more (λ n. n) c.deref-rent-items.result.now c.loop-rent.rent-index 0 c.loop-rent-test.true);
      few = omega (arith, step, so_far);
    }

pub returns : goal.returns
returns c =
    c.loop-rent.invariant.total
    ∙ ap (λ l. sum_by (λ n. n) l) (take_all c.loop-rent.rent-index c.deref-rent-items.result.now (omega (arith, c.loop-rent-test.false)))
    ∙ ap (λ l. sum_by (λ n. n) l) c.deref-rent-items.ensures.value

use Rattle.tt_leaf_find.proofs.Smallest.{kth_from_back, kth_member}
use Rattle.tt_leaf_find.proofs.prices.kth_smallest.Goals as goal

pub returns-clause-value : goal.returns-clause-value
returns-clause-value c =
    let least = c.in_ok-smallest.field-0.rest in
    let left = c.next_back.new.self.rest in
    kth_from_back c.args.k c.args.numbers.now least.items c.in_ok-smallest.ensures left.items c.next_back.result least.len left.len
    least.ok.0 c.next_back.ensures.steps

pub returns-clause-member : goal.returns-clause-member
returns-clause-member c = kth_member c.args.k c.args.numbers.now c.next_back.result (returns-clause-value c)

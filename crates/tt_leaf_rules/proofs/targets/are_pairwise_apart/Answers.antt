use Rattle.tt_leaf_rules.proofs.Apart.{once_fails, once_goes_on, others_once}
use Rattle.tt_leaf_rules.proofs.targets.are_pairwise_apart.Goals as goal

pub returns-then-not-is_apart_from_each : goal.returns-then-not-is_apart_from_each
returns-then-not-is_apart_from_each c =
    once_fails c.args.claims.now c.loop-first.rest.now c.in-Some.others.now c.in-Some.first.now c.loop-first.invariant.same
    c.loop-first.invariant.once c.in-Some.ensures.cases.0
    c.if-not-is_apart_from_each.ensures

pub loop-first-preserved : goal.loop-first-preserved
loop-first-preserved c = record {
  same = once_goes_on c.args.claims.now c.loop-first.rest.now c.in-Some.others.now c.in-Some.first.now c.loop-first.invariant.same
      c.loop-first.invariant.once c.in-Some.ensures.cases.0
      c.if-not-is_apart_from_each.ensures;
  once = others_once c.args.claims.now c.loop-first.rest.now c.in-Some.others.now c.in-Some.first.now c.loop-first.invariant.same
      c.loop-first.invariant.once c.in-Some.ensures.cases.0;
}

use Rattle.std.proofs.Common.{◌*◌, ◌≤◌, ap, subst, arith}
use Rattle.tt_path.specs.Live.{pinned}
use Rattle.tt_leaf_rules.proofs.Week.{week_next, week_whole, week_within}
use Rattle.tt_leaf_rules.proofs.pinned.pinned_periods.Goals as goal

pub loop-day-preserved : goal.loop-day-preserved
loop-day-preserved g c =
    let p = g.P.Path.problem c.args.path.now in
    let at_most : p.periods ≤ 64 =
    omega (arith, c.periods.ensures.value, c.periods.ensures.within, ap (λ q. q.periods) c.instance.ensures) in
    record {
      counted = week_next p (pinned p (g.P.Path.facts c.args.path.now) c.args.who) c.loop-day.day c.pinned_periods.result
          c.loop-day.total c.count-total.result at_most c.pinned_periods.ensures c.loop-day.invariant.counted c.count-total.ensures.value;
      at_most = omega (arith, c.loop-day.invariant.at_most, c.count-total.ensures.within);
    }

pub returns-clause-value : goal.returns-clause-value
returns-clause-value g c =
    let p = g.P.Path.problem c.args.path.now in
    week_whole p (pinned p (g.P.Path.facts c.args.path.now) c.args.who) c.loop-day.day c.loop-day.total c.loop-day.invariant.counted
    (omega (arith, c.days-day-end.ensures.value, ap (λ q. q.days) c.instance-2.ensures))

pub returns-clause-within : goal.returns-clause-within
returns-clause-within g c =
    let p = g.P.Path.problem c.args.path.now in
    let week : p.days * p.periods ≤ 512 = subst (λ q. q.days * q.periods ≤ 512) c.instance.ensures
    (subst (λ n. c.instance.result.now.days * n ≤ 512) c.periods.ensures.value c.periods.ensures.week) in
    week_within p (pinned p (g.P.Path.facts c.args.path.now) c.args.who) c.loop-day.total week
    (week_whole p (pinned p (g.P.Path.facts c.args.path.now) c.args.who) c.loop-day.day c.loop-day.total c.loop-day.invariant.counted
    (omega (arith, c.days-day-end.ensures.value, ap (λ q. q.days) c.instance-2.ensures)))

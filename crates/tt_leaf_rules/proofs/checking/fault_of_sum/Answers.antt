use Rattle.std.proofs.Common.{length, ap, arith}
use Rattle.tt_leaf_rules.proofs.Meeting.{each_placed}
use Rattle.tt_leaf_rules.proofs.Sizes.{each_once}
use Rattle.tt_leaf_rules.proofs.checking.fault_of_sum.Goals as goal

pub are_claimed_once-requires-clause-once : goal.are_claimed_once-requires-clause-once
are_claimed_once-requires-clause-once g c = each_once (g.P.Path.problem c.args.path.now) c.args.claims.now c.requires

pub are_claimed_once-requires-clause-placed : goal.are_claimed_once-requires-clause-placed
are_claimed_once-requires-clause-placed g c =
    let taught = ap (λ q. length q.courses) c.instance-instance.ensures in
    let grouped = ap (λ q. length q.curricula) c.instance-instance.ensures in
    each_placed (g.P.Path.problem c.args.path.now) (omega (arith, taught, c.courses.ensures))
    (omega (arith, grouped, c.curricula.ensures)) c.args.claims.now c.requires

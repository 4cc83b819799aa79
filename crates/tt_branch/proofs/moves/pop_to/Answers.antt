use Rattle.std.proofs.Common.{◌∙◌, arith}
use Rattle.tt_branch.proofs.Moving.{one_fewer, shorter}
use Rattle.tt_branch.proofs.moves.pop_to.Goals as goal

pub loop-path-preserved : goal.loop-path-preserved
loop-path-preserved g c =
    let i = c.loop-path.invariant in
    let facts = g.P.Path.facts c.loop-path.path in
    let less = g.P.Path.facts c.pop.new.self in
    record {
      problem = c.pop.ensures.unchanged ∙ i.problem;
      kept = one_fewer (g.P.Path.facts c.args.path.now) facts less c.pop.result i.kept c.pop.ensures.fact;
      deep = omega (arith, shorter facts less c.pop.result c.pop.ensures.fact, c.depth.ensures.value, c.loop-path-test.true);
    }

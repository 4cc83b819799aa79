use Rattle.std.proofs.Common.{sym, ◌∙◌, take, arith}
use Rattle.tt_path.proofs.Same.{same_fact}
use Rattle.tt_branch.proofs.Moving.{one_more}
use Rattle.tt_branch.proofs.moves.shared.Goals as goal

pub loop-index-preserved : goal.loop-index-preserved
loop-index-preserved g c =
    let i = c.loop-index.invariant in
    let old = g.P.Path.facts c.args.path.now in
    let facts = c.args.facts.now in
    let same = same_fact c.fact.result _ (sym c.is_same.ensures ∙ c.if-not-is_same.false) in
    record {
      sum = omega arith;
      same = one_more old facts (take c.args.root_depth old) c.loop-index.index c.loop-index.left c.fact.result _ (omega arith)
          (omega arith) (omega arith) c.fact.ensures same i.same;
    }

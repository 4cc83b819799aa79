use Rattle.tt_parts.proofs.finding.sum_or_none.Goals as goal

pub returns-in-None : goal.returns-in-None
returns-in-None g = g.none.ensures g.args.instance.now g.args.root.now

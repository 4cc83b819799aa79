use Rattle.std.proofs.Common.{sym}
use Rattle.tt_leaf_rules.proofs.Covering.{clear_of_none}
use Rattle.tt_leaf_rules.proofs.prices.is_block_clear.Goals as goal

pub returns-then-rooms-eq0 : goal.returns-then-rooms-eq0
returns-then-rooms-eq0 g c =
    let p = g.P.Path.problem c.args.path.now in
    sym (clear_of_none p (g.P.Path.facts c.args.path.now) c.args.course c.args.block c.args.rooms c.if-rooms-eq0.true)

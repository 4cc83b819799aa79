use Rattle.std.proofs.Common.{[], ◌∷◌}
use Rattle.tt_report.proofs.Putting.{puts_both}
use Rattle.tt_report.proofs.output.Output.put_next_token.Goals as goal

pub returns : goal.returns
returns g c =
    puts_both g.W.Sink.contents g.W.Sink.has_failed c.args.self.now c.put.new.self c.put-2.new.self
    (32 ∷ []) c.args.token.now c.put.ensures c.put-2.ensures

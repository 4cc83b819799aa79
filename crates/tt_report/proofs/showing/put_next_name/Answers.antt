use Rattle.std.proofs.Common.{[], ◌∷◌}
use Rattle.tt_report.proofs.Putting.{puts_both}
use Rattle.tt_report.specs.Names.{shown}
use Rattle.tt_report.proofs.showing.put_next_name.Goals as goal

pub returns : goal.returns
returns g c =
    puts_both g.W.Sink.contents g.W.Sink.has_failed c.args.out.now c.put.new.self c.put_shown.new.out (32 ∷ []) (shown c.args.name.now)
    c.put.ensures c.put_shown.ensures

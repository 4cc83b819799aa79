use Rattle.tt_changes.specs.Lines.{change_line}
use Rattle.tt_changes.proofs.Lines.{all_put}
use Rattle.tt_changes.proofs.writing.put_moves.Goals as goal

pub returns : goal.returns
returns c = all_put (change_line c.args.instance.now c.args.word.now) c.args.changes.now c.loop-change.change-index c.args.out.now.items
    c.loop-change.out.items c.loop-change.invariant c.loop-change-test.false

use Rattle.tt_changes.specs.Lines.{entry_line}
use Rattle.tt_changes.proofs.Lines.{all_put}
use Rattle.tt_changes.proofs.writing.put_entries.Goals as goal

pub returns : goal.returns
returns c = all_put (entry_line c.args.instance.now c.args.word.now) c.args.entries.now c.loop-entry.entry-index c.args.out.now.items
    c.loop-entry.out.items c.loop-entry.invariant c.loop-entry-test.false

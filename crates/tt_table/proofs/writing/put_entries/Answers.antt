use Rattle.tt_text.proofs.Texts.{rows_done}
use Rattle.tt_table.specs.Spelling.{entry_pieces}
use Rattle.tt_table.proofs.writing.put_entries.Goals as goal

pub returns : goal.returns
returns c = rows_done (entry_pieces c.args.instance.now) c.args.entries.now c.loop-entry.entry-index c.loop-entry.out.items
    c.loop-entry.invariant c.loop-entry-test.false

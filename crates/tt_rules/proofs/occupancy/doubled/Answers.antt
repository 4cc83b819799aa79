use Rattle.tt_instance.specs.Cells.{is_in}
use Rattle.tt_rules.proofs.Periods.{entries_but_first}
use Rattle.tt_rules.proofs.occupancy.doubled.Goals as goal

pub returns-clause-count : goal.returns-clause-count
returns-clause-count c = cc (entries_but_first c.args.instance.now c.args.by_room.now.entries (is_in c.args.room) c.requires.in_range)

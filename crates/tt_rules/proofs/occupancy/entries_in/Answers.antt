use Rattle.std.proofs.Common.{length, ap, ◌∙◌}
use Rattle.std.proofs.lemmas.List.Sums.{length-filter}
use Rattle.tt_instance.specs.Cells.{is_in}
use Rattle.tt_rules.proofs.occupancy.entries_in.Goals as goal

pub returns-clause-count : goal.returns-clause-count
returns-clause-count c =
    c.len.ensures ∙ ap length c.in_room.ensures.group ∙ length-filter (is_in c.args.room) c.args.by_room.now.entries

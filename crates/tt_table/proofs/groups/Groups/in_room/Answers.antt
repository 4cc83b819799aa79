use Rattle.std.proofs.Common.{ap, ◌∙◌}
use Rattle.std.specs.Prelude.{filter}
use Rattle.tt_table.specs.Groups.{in_group}
use Rattle.tt_table.proofs.groups.Groups.in_room.Goals as goal

pub returns-clause-group : goal.returns-clause-group
returns-clause-group c =
    c.of.ensures.group ∙ ap (λ by. filter (in_group by c.args.room) c.args.self.now.entries) c.requires.by

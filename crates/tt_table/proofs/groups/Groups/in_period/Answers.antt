use Rattle.std.proofs.Common.{◌+◌, ◌*◌, ap, ◌∙◌}
use Rattle.std.specs.Prelude.{filter}
use Rattle.tt_table.specs.Groups.{in_group}
use Rattle.tt_table.specs.declared.groups.GroupBy.TheVariants.{Period}
use Rattle.tt_table.proofs.Numbering.{group_at}
use Rattle.tt_table.proofs.groups.Groups.in_period.Goals as goal

pub returns-clause-group : goal.returns-clause-group
returns-clause-group c =
    let p = c.args.instance.now in
    let t = c.args.self.now.entries in
    c.of.ensures.group
    ∙ ap (λ by. filter (in_group by (c.args.day * c.periods-periods.result + c.args.period)) t) c.requires.by
    ∙ ap (λ n. filter (in_group (Period p.periods) (c.args.day * n + c.args.period)) t) c.periods-periods.ensures.value
    ∙ group_at p t c.args.day c.args.period c.requires.in_range c.requires.period

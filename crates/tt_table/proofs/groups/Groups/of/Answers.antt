use Rattle.std.proofs.Common.{◌≡◌, get_or, ap, ◌∙◌, subst, drop}
use Rattle.std.specs.Prelude.{filter}
use Rattle.tt_table.specs.Groups.{in_group, led_group, Grouped}
use Rattle.tt_table.proofs.Grouping.{led_from}
use Rattle.tt_table.proofs.groups.Groups.of.Goals as goal

pub returns-clause-group : goal.returns-clause-group
returns-clause-group c =
    let by = c.self.inside.by in
    let t = c.self.inside.entries.now in
    subst (λ (s : Grouped). led_group by (drop (get_or c.self.inside.links.first c.args.group 0) t) ≡ filter
    (in_group s.by c.args.group) s.entries) c.self.view_is
    (ap (λ k. led_group by (drop k t)) (c.self.invariant.begins c.args.group c.requires) ∙ led_from by t c.args.group 0)

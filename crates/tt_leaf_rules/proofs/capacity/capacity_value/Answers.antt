use Rattle.std.proofs.Common.{rules, ◌≡◌, ◌-◌, ◌*◌, ap, ◌∙◌}
use Rattle.tt_instance.specs.Courses.{lectures}
use Rattle.tt_leaf_rules.specs.Inner.Nested.{discounts}
use Rattle.tt_leaf_rules.proofs.Values.{discounts_are}
use Rattle.tt_leaf_rules.proofs.capacity.capacity_value.Goals as goal

pub returns-clause-value : goal.returns-clause-value
returns-clause-value g c =
    let p = g.P.Path.problem c.args.path.now in
    let facts = g.P.Path.facts c.args.path.now in
    let full = lectures p c.args.course * c.args.price in
    let counted : c.saturating_sub.result ≡ full - discounts p facts c.args.course c.args.price = search rules in
    counted ∙ ap (λ n. full - n) (discounts_are p facts c.args.course c.args.price)

use Rattle.std.proofs.Common.{ap, ◌∙◌}
use Rattle.std.specs.List.{list_all}
use Rattle.tt_instance.specs.Courses.{members}
use Rattle.tt_leaf_rules.specs.Inner.Nested.{is_gone_or_dead}
use Rattle.tt_leaf_rules.proofs.empty.are_members_dead.Goals as goal

pub returns : goal.returns
returns g c =
    let a = c.args in
    let p = g.P.Path.problem a.path.now in
    c.are_courses_dead.ensures
    ∙ ap (list_all (is_gone_or_dead p (g.P.Path.facts a.path.now) a.pattern.now))
    (c.members.ensures.value ∙ ap (λ q. members q a.curriculum) c.instance.ensures)

use Rattle.std.proofs.Common.{◌≤◌, length, sym, ap, ◌∙◌, arith, le-leb}
use Rattle.tt_leaf_rules.proofs.Nested.{all_dead-by_one, all_dead-by_members, all_dead-by_nobody}
use Rattle.tt_leaf_rules.proofs.empty.are_all_dead.Goals as goal

pub returns-in-Course : goal.returns-in-Course
returns-in-Course g c =
    let p = g.P.Path.problem c.args.path.now in
    c.is_gone_or_dead.ensures
    ∙ sym (all_dead-by_one p (g.P.Path.facts c.args.path.now) c.args.pattern.now c.in-Course.course c.in-Course.is)

pub returns-then-curriculum-curricula : goal.returns-then-curriculum-curricula
returns-then-curriculum-curricula g c =
    let p = g.P.Path.problem c.args.path.now in
    let q = c.in-Curriculum.curriculum in
    let past : length p.curricula ≤ q = omega (arith, ap (λ z. length z.curricula) c.instance.ensures) in
    le-leb c.curricula.result q c.if-curriculum-curricula.true
    ∙ sym (all_dead-by_nobody p (g.P.Path.facts c.args.path.now) c.args.pattern.now q c.in-Curriculum.is past)

pub returns-else-curriculum-curricula : goal.returns-else-curriculum-curricula
returns-else-curriculum-curricula g c =
    let p = g.P.Path.problem c.args.path.now in
    c.are_members_dead.ensures
    ∙ sym (all_dead-by_members p (g.P.Path.facts c.args.path.now) c.args.pattern.now c.in-Curriculum.curriculum c.in-Curriculum.is)

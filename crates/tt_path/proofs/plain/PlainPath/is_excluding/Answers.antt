use Rattle.std.proofs.Common.{◌≤◌, length, sym, ap, ◌∙◌, arith, le-leb}
use Rattle.tt_path.specs.Inner.Paths.{Facts}
use Rattle.tt_path.proofs.Lost.{excludes-by_one, excludes-by_members, excludes-by_nobody}
use Rattle.tt_path.proofs.plain.PlainPath.is_excluding.Goals as goal

pub returns-in-Course : goal.returns-in-Course
returns-in-Course c =
    let s = c.args.self.now in
    c.is_course_lost.ensures ∙ sym (excludes-by_one s.problem s.facts c.args.pattern.now c.args.cell c.in-Course.course c.in-Course.is)

pub returns-then-curriculum-curricula : goal.returns-then-curriculum-curricula
returns-then-curriculum-curricula c =
    let s = c.args.self.now in
    let q = c.in-Curriculum.curriculum in
    let past : length s.problem.curricula ≤ q = omega (arith, ap (λ (v : Facts). length v.problem.curricula) c.self.view_is) in
    le-leb c.curricula.result q c.if-curriculum-curricula.true
    ∙ sym (excludes-by_nobody s.problem s.facts c.args.pattern.now c.args.cell q c.in-Curriculum.is past)

pub returns-else-curriculum-curricula : goal.returns-else-curriculum-curricula
returns-else-curriculum-curricula c =
    let s = c.args.self.now in
    c.are_members_lost.ensures
    ∙ sym (excludes-by_members s.problem s.facts c.args.pattern.now c.args.cell c.in-Curriculum.curriculum c.in-Curriculum.is)

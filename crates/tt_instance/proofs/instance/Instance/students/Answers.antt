use Rattle.tt_instance.proofs.Getting.{course_within}
use Rattle.tt_instance.proofs.instance.Instance.students.Goals as goal

pub returns-clause-within : goal.returns-clause-within
returns-clause-within c =
    (course_within c.self.inside.parts c.args.self.now c.self.view_is c.self.invariant.instance c.args.course c.index.result.now
    c.requires c.index.ensures).2

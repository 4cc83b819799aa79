use Rattle.std.proofs.Common.{ap}
use Rattle.tt_instance.specs.Problem.{Problem}
use Rattle.tt_instance.proofs.Getting.{teacher_seen}
use Rattle.tt_instance.proofs.instance.Instance.teacher_of.Goals as goal

pub returns-clause-value : goal.returns-clause-value
returns-clause-value c = teacher_seen c.self.inside.parts.courses c.args.self.now c.args.course c.index.result.now
    c.self.invariant.indexed.courses (ap (λ (p : Problem). p.courses) c.self.view_is) c.requires c.index.ensures

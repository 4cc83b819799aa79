use Rattle.std.proofs.Common.{ap}
use Rattle.tt_instance.specs.Problem.{Course, Problem}
use Rattle.tt_instance.specs.Seen.{course_seen}
use Rattle.tt_instance.proofs.Getting.{field_seen}
use Rattle.tt_instance.proofs.instance.Instance.course_id.Goals as goal

pub returns : goal.returns
returns c = field_seen course_seen c.self.inside.parts.courses.rows.items c.args.course c.index.result.now
    (λ (k : Course). k.id) c.args.self.now.courses (ap (λ (p : Problem). p.courses) c.self.view_is) c.requires c.index.ensures

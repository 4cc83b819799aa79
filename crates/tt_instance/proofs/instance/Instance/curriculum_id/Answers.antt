use Rattle.std.proofs.Common.{ap}
use Rattle.tt_instance.specs.Problem.{Curriculum, Problem}
use Rattle.tt_instance.specs.Seen.{curriculum_seen}
use Rattle.tt_instance.proofs.Getting.{field_seen}
use Rattle.tt_instance.proofs.instance.Instance.curriculum_id.Goals as goal

pub returns : goal.returns
returns c = field_seen curriculum_seen c.self.inside.parts.curricula.items c.args.curriculum c.index.result.now
    (λ (k : Curriculum). k.id) c.args.self.now.curricula (ap (λ (p : Problem). p.curricula) c.self.view_is) c.requires c.index.ensures

use Rattle.tt_instance.proofs.Getting.{curriculum_within}
use Rattle.tt_instance.proofs.instance.Instance.members.Goals as goal

pub returns-clause-within : goal.returns-clause-within
returns-clause-within c =
    rw c.as_slice.ensures.value
    (curriculum_within c.self.inside.parts c.args.self.now c.self.view_is c.self.invariant.instance c.args.curriculum
    c.index.result.now c.requires c.index.ensures)

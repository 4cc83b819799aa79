use Rattle.tt_instance.proofs.Getting.{room_within}
use Rattle.tt_instance.proofs.instance.Instance.capacity.Goals as goal

pub returns-clause-within : goal.returns-clause-within
returns-clause-within c = room_within c.self.inside.parts c.args.self.now c.self.view_is c.self.invariant.instance c.args.room
    c.index.result.now c.requires c.index.ensures

use Rattle.std.proofs.Common.{ap}
use Rattle.tt_instance.specs.Problem.{Room, Problem}
use Rattle.tt_instance.specs.Seen.{room_seen}
use Rattle.tt_instance.proofs.Getting.{field_seen}
use Rattle.tt_instance.proofs.instance.Instance.room_id.Goals as goal

pub returns : goal.returns
returns c = field_seen room_seen c.self.inside.parts.rooms.items c.args.room c.index.result.now
    (λ (k : Room). k.id) c.args.self.now.rooms (ap (λ (p : Problem). p.rooms) c.self.view_is) c.requires c.index.ensures

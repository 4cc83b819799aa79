use Rattle.std.proofs.Common.{◌∙◌, sym}
use Rattle.tt_instance_read.proofs.Indexing.{one_room_more}
use Rattle.tt_instance_read.proofs.rooms.read_room.Goals as goal

pub returns-clause-indexed : goal.returns-clause-indexed
returns-clause-indexed c = one_room_more c.args.list.now _ _ c.requires c.in_ok-push.ensures.items
    (sym c.in_ok-put.ensures.added ∙ c.if-not-branch.false) c.in_ok-put.ensures.names

use Rattle.std.proofs.Common.{◌+◌, ◌*◌, ◌&&◌, ap, ◌∙◌}
use Rattle.tt_path.specs.Facts.{agrees}
use Rattle.tt_path_tables.specs.Inner.Tables.{is_open}
use Rattle.tt_path_tables.proofs.Reading.{any_block, spare-cell}
use Rattle.tt_path_tables.proofs.asking.has_period.Goals as goal

pub returns : goal.returns
returns c =
    let a = c.args in
    let spot = a.spot in
    let r = c.requires in
    let p = a.instance.now in
    let words = a.table.now.words in
    c.has_blocks.ensures
    ∙ any_block p (is_open p words spot.room spot.course spot.slot.day spot.slot.period)
    (λ w k hw hk past. ap (λ b. b && agrees spot.room (w * 64 + k))
    (spare-cell p words spot.course spot.slot.day spot.slot.period w k r.table r.spot.course r.spot.slot.day r.spot.slot.period hw hk past))

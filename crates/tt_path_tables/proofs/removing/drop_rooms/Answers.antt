use Rattle.std.proofs.Common.{◌≡◌, ◌+◌, ◌*◌, ◌<◌, ◌&&◌, ◌∙◌, subst, arith}
use Rattle.std.specs.Prelude.{nat_lt}
use Rattle.tt_path.specs.Facts.{agrees}
use Rattle.tt_bits.specs.Inner.Bits.{Clears}
use Rattle.tt_path_tables.specs.Inner.Words.{width, room_of, is_here, Drops}
use Rattle.tt_path_tables.proofs.Dropping.{block_dropped, word_dropped}
use Rattle.tt_path_tables.proofs.removing.drop_rooms.Goals as goal

pub loop-block-preserved : goal.loop-block-preserved
loop-block-preserved c =
    let a = c.args in
    let q = c.requires in
    let p = a.instance.now in
    let n = c.loop-block.block in
    let mid = c.loop-block.table.words in
    let new = c.clear.new.table.words in
    let mask = c.allowed.result in
    let here : n < width p = omega (arith, c.width-block-end.ensures.value) in
    let cleared = subst (λ i. Clears mid i mask new) c.place.ensures.value c.in_ok-clear.ensures.ok in
    record {
      drops = block_dropped p a.table.now.words a.course a.slot.day a.slot.period n mask (λ w i. agrees a.room (w * 64 + i)) mid new
          q.course q.slot.day q.slot.period here c.loop-block.invariant.drops
          (word_dropped p mid a.course a.slot.day a.slot.period n mask new q.course q.slot.day q.slot.period here cleared)
          c.allowed.ensures;
      earlier = c.clear.ensures.unchanged ∙ c.loop-block.invariant.earlier;
    }

pub returns-clause-ok : goal.returns-clause-ok
returns-clause-ok c =
    let a = c.args in
    let p = a.instance.now in
    let new = c.loop-block.table.words in
    let end : c.loop-block.block ≡ width p = omega (arith, c.width-block-end.ensures.value) in
    subst (λ n. Drops p a.table.now.words new (λ b. is_here a.course a.slot.day a.slot.period b && nat_lt b.block n &&
    agrees a.room (room_of b))) end c.loop-block.invariant.drops

use Rattle.std.proofs.Common.{◌≡◌, ℕ, ◌+◌, ◌*◌, ◌<◌, not, ◌&&◌, ap, ◌∙◌, subst, arith}
use Rattle.std.specs.Prelude.{nat_lt}
use Rattle.tt_bits.specs.Inner.Bits.{Clears}
use Rattle.tt_path_tables.specs.Inner.Words.{width, is_here, Drops}
use Rattle.tt_path_tables.specs.Inner.Tables.{is_open}
use Rattle.tt_path_tables.proofs.Dropping.{block_dropped, word_dropped, rooms_kept}
use Rattle.tt_path_tables.proofs.removing.keep_rooms.Goals as goal

pub loop-block-preserved : goal.loop-block-preserved
loop-block-preserved c =
    let a = c.args in
    let spot = a.spot in
    let q = c.requires.spot in
    let p = a.instance.now in
    let n = c.loop-block.block in
    let mid = c.loop-block.table.words in
    let new = c.clear.new.table.words in
    let mask = c.others.result in
    let lost = λ (w i : ℕ). not (is_open p a.kept.now.words spot.room spot.course spot.slot.day spot.slot.period (w * 64 + i)) in
    let here : n < width p = omega (arith, c.width-block-end.ensures.value) in
    let cleared = subst (λ i. Clears mid i mask new) c.place.ensures.value c.in_ok-clear.ensures.ok in
    record {
      drops = block_dropped p a.table.now.words spot.course spot.slot.day spot.slot.period n mask lost mid new
          q.course (omega (arith, q.slot.day)) (omega (arith, q.slot.period)) here c.loop-block.invariant.drops
          (word_dropped p mid spot.course spot.slot.day spot.slot.period n mask new q.course (omega (arith, q.slot.day))
          (omega (arith, q.slot.period)) here cleared)
          (λ k h. c.others.ensures k h ∙ ap not (c.open_word-word.ensures k h));
      earlier = c.clear.ensures.unchanged ∙ c.loop-block.invariant.earlier;
    }

pub returns-clause-ok : goal.returns-clause-ok
returns-clause-ok c =
    let a = c.args in
    let spot = a.spot in
    let p = a.instance.now in
    let new = c.loop-block.table.words in
    let end : c.loop-block.block ≡ width p = omega (arith, c.width-block-end.ensures.value) in
    rooms_kept p a.table.now.words spot.course spot.slot.day spot.slot.period c.requires.spot.slot.day
    c.requires.spot.slot.period spot.room a.kept.now.words new c.requires.table
    (subst (λ n. Drops p a.table.now.words new (λ b. is_here spot.course spot.slot.day spot.slot.period b && nat_lt b.block n && not
    (is_open p a.kept.now.words spot.room spot.course spot.slot.day spot.slot.period (b.block * 64 + b.number))))
    end c.loop-block.invariant.drops)

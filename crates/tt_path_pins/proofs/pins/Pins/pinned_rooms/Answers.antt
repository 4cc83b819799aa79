use Rattle.std.proofs.Common.{◌+◌, ◌*◌, ◌<◌, ◌&&◌, length, ap, ◌∙◌, arith}
use Rattle.std.specs.Prelude.{nat_lt, slice_index_or}
use Rattle.tt_path.specs.Live.{pinned_room}
use Rattle.tt_path.specs.Inner.Paths.{Facts}
use Rattle.tt_bits.specs.Inner.Bits.{has_bit}
use Rattle.tt_path_pins.proofs.Shown.{block_shown}
use Rattle.tt_path_pins.proofs.pins.Pins.pinned_rooms.Goals as goal

pub returns : goal.returns
returns c =
    let s = c.self.inside in
    let a = c.args in
    let p = s.instance.now in
    let words = s.pinned.words in
    let hc : a.course < length p.courses = omega (arith, ap (λ (v : Facts). length v.problem.courses) c.self.view_is) in
    let hb : a.block * 64 < length p.rooms = omega (arith, ap (λ (v : Facts). length v.problem.rooms) c.self.view_is) in
    λ n h.
    ap (λ w. has_bit w n) (c.word.ensures ∙ ap (λ i. slice_index_or words i 0) c.block_place.ensures.value)
    ∙ block_shown p s.facts.items words a.course a.block c.self.invariant.shown hc hb n h
    ∙ ap (λ (v : Facts). nat_lt (a.block * 64 + n) (length v.problem.rooms) && pinned_room v.problem v.facts a.course
    (a.block * 64 + n)) c.self.view_is

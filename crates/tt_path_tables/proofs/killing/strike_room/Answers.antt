use Rattle.std.proofs.Common.{◌+◌, ◌≤◌, not, ◌&&◌, length, refl, ap, ◌∙◌, arith}
use Rattle.std.specs.Prelude.{◌==◌, nat_lt}
use Rattle.std.proofs.lemmas.Bool.{lt-ltb, le-ltb}
use Rattle.tt_instance.specs.declared.cell.Cell.{Cell}
use Rattle.tt_path_tables.specs.Inner.Tables.{is_placed}
use Rattle.tt_path_tables.proofs.Losing.{loses-none, loses-more, loses-same, course_next}
use Rattle.tt_path_tables.proofs.killing.strike_room.Goals as goal

pub loop-other-init : goal.loop-other-init
loop-other-init c =
    let a = c.args in
    let p = a.instance.now in
    let gone = λ (x : Cell). (x.day == a.slot.day) && (x.period == a.slot.period) && (not (x.course == a.course) && (a.room == x.room)) in
    record {
      loses = loses-none p a.live.now.words (λ x. nat_lt x.course 0 && gone x) c.requires.live
          (λ x h. ap (λ b. b && gone x) (le-ltb x.course 0 (omega arith)));
      earlier = refl;
    }

pub strike_room_of-requires-clause-live : goal.strike_room_of-requires-clause-live
strike_room_of-requires-clause-live c = c.loop-other.invariant.loses.table

pub loop-other-preserved : goal.loop-other-preserved
loop-other-preserved c =
    let a = c.args in
    let p = a.instance.now in
    let n = c.loop-other.other in
    let room = λ (x : Cell). not (x.course == a.course) && (a.room == x.room) in
    let gone = λ (x : Cell). (x.day == a.slot.day) && (x.period == a.slot.period) && room x in
    record {
      loses = loses-more p a.live.now.words c.loop-other.live.words c.strike_room_of.new.live.words (λ x. nat_lt x.course n && gone x)
          (λ x. is_placed n a.slot.day a.slot.period x && room x) (λ x. nat_lt x.course (n + 1) && gone x) c.loop-other.invariant.loses
          c.in_ok-strike_room_of.ensures.ok
          (λ x h. course_next n x.course (x.day == a.slot.day) (x.period == a.slot.period) (room x));
      earlier = c.strike_room_of.ensures.unchanged ∙ c.loop-other.invariant.earlier;
    }

pub returns-clause-ok : goal.returns-clause-ok
returns-clause-ok c =
    let a = c.args in
    let p = a.instance.now in
    let n = c.loop-other.other in
    let gone = λ (x : Cell). (x.day == a.slot.day) && (x.period == a.slot.period) && (not (x.course == a.course) && (a.room == x.room)) in
    let end : length p.courses ≤ n = omega (arith, c.courses-other-end.ensures.value) in
    loses-same p a.live.now.words c.loop-other.live.words (λ x. nat_lt x.course n && gone x) gone c.loop-other.invariant.loses
    (λ x h. let l = h.course in ap (λ b. b && gone x) (lt-ltb x.course n (omega arith)))

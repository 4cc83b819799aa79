use Rattle.std.proofs.Common.{◌<◌, length, ap, arith}
use Rattle.tt_instance.specs.Cells.{all_slots}
use Rattle.tt_instance.specs.Courses.{lectures}
use Rattle.tt_leaf_find.specs.Inner.Seated.{is_seated}
use Rattle.tt_leaf_find.proofs.Seated.{passes_among}
use Rattle.tt_instance.proofs.Slots.{slots_count_yes, slots_count_no}
use Rattle.tt_leaf_find.proofs.prices.has_seats.Goals as goal
use Rattle.tt_leaf_find.proofs.prices.has_seats.Goals.{then-is_seated+else-wanted-seated, else-is_seated}

pub returns-then-wanted-seated : goal.returns-then-wanted-seated
returns-then-wanted-seated g c =
    let p = g.P.Path.problem c.args.path.now in
    let q = c.instance-instance.result.now in
    let test = is_seated p (g.P.Path.facts c.args.path.now) c.args.course in
    let i = c.loop-place.place in
    let s = c.slot_at.result in
    let there : i < length (all_slots q) = omega arith in
    let k = passes_among p q test i c.loop-place.seated s c.instance-instance.ensures there c.slot_at.ensures.value
    c.loop-place.invariant c.if-is_seated.ensures in
    λ _. omega (arith, k, ap (λ z. lectures z c.args.course) c.instance-instance.ensures)

pub loop-place-preserved : goal.loop-place-preserved
loop-place-preserved g c =
    let p = g.P.Path.problem c.args.path.now in
    let q = c.instance-instance.result.now in
    let test = is_seated p (g.P.Path.facts c.args.path.now) c.args.course in
    let i = c.loop-place.place in
    let s = c.slot_at.result in
    let same = c.instance-instance.ensures in
    let is = c.slot_at.ensures.value in
    let there : i < length (all_slots q) = omega arith in
    elim c.if-is_seated.branch [
      | then-is_seated+else-wanted-seated w ↦ slots_count_yes p q test i c.loop-place.seated _ s same there is c.loop-place.invariant
          w.if-is_seated.ensures w.seated-is
      | else-is_seated w ↦ slots_count_no p q test i c.loop-place.seated _ s same there is c.loop-place.invariant w.if-is_seated.ensures
          w.seated-is
    ]

use Rattle.std.proofs.Common.{◌≡◌, ℕ, ◌-◌, length, ap, ◌∙◌, arith}
use Rattle.std.specs.Prelude.{◌==◌, count_by}
use Rattle.tt_list_laws.specs.Words.{range_below}
use Rattle.tt_instance.specs.Courses.{excess}
use Rattle.tt_plans_slots.specs.Levels.{level}
use Rattle.tt_plans_slots.proofs.Fewest.{counted_with, counted_without, fewest_counted}
use Rattle.tt_plans_slots.proofs.levels.level_of.Goals as goal
use Rattle.tt_plans_slots.proofs.levels.level_of.Goals.{then-missing_seats-least, else-missing_seats-least}

pub loop-room-preserved : goal.loop-room-preserved
loop-room-preserved c =
    let f : ℕ → ℕ = excess c.args.instance.now c.args.course in
    let least = c.fewest_missing-least.result in
    elim c.if-missing_seats-least.branch [
      | then-missing_seats-least w ↦ record {
        counted = counted_with f c.loop-room.room least c.loop-room.count c.if-missing_seats-least.count c.missing_seats.result
            c.missing_seats.ensures c.loop-room.invariant.counted w.if-missing_seats-least.true w.count-is;
        few = omega arith;
      }
      | else-missing_seats-least w ↦ record {
        counted = counted_without f c.loop-room.room least c.loop-room.count c.if-missing_seats-least.count c.missing_seats.result
            c.missing_seats.ensures c.loop-room.invariant.counted w.if-missing_seats-least.false w.count-is;
        few = omega arith;
      }
    ]

pub returns : goal.returns
unfolding level
returns c =
    let p = c.args.instance.now in
    let n = length p.rooms in
    let f : ℕ → ℕ = excess p c.args.course in
    let least = c.fewest_missing-least.result in
    let end : c.loop-room.room ≡ n = omega arith in
    c.saturating_sub.ensures
    ∙ ap (λ k. k - 1)
    (c.loop-room.invariant.counted ∙ ap (λ k. count_by (λ r. f r == least) (range_below k)) end
    ∙ fewest_counted f n least c.fewest_missing-least.ensures.least c.fewest_missing-least.ensures.there)

use Rattle.std.proofs.Common.{ℕ}
use Rattle.tt_instance.specs.Courses.{excess}
use Rattle.tt_plans_slots.proofs.Fewest.{least_more, there_more}
use Rattle.tt_plans_slots.proofs.levels.fewest_missing.Goals as goal

pub loop-room-preserved : goal.loop-room-preserved
loop-room-preserved c =
    let f : ℕ → ℕ = excess c.args.instance.now c.args.course in
    let before = c.loop-room.invariant in
    record {
      least = least_more f c.loop-room.room c.loop-room.least c.missing_seats.result c.min-least.result c.missing_seats.ensures
          c.min-least.ensures before.least;
      there = there_more f c.loop-room.room c.loop-room.least c.missing_seats.result c.min-least.result c.missing_seats.ensures
          c.min-least.ensures before.there;
    }

use Rattle.std.proofs.Common.{◌≡◌, ◌∙◌, arith}
use Rattle.tt_stay.proofs.weight.weigh.Goals as goal

pub returns : goal.returns
returns c =
    let right = c.in_ok-changes.ensures c.args.instance.now c.requires.older c.requires.table in
    let s = c.score-score.ensures in
    record {
      hard_is = omega (arith, c.hard.ensures, s.lectures, s.conflicts, s.availability, s.room_occupancy);
      cost_is = omega (arith, c.cost.ensures, s.room_capacity, s.min_working_days, s.compactness, s.room_stability);
      moved_is = c.len.ensures ∙ (c.in_ok-changes.changes.moved.ok.0 ∙ right.moved_all);
      rooms_is = c.len-2.ensures ∙ (c.in_ok-changes.changes.rooms.ok.0 ∙ right.rooms_all);
    }

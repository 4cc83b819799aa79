use Rattle.std.proofs.Common.{arith, ◌∷◌}
use Rattle.tt_rules.specs.Hard.{lectures_count, conflicts_count, availability_count, occupancy_count}
use Rattle.tt_rules.specs.Soft.{capacity_count, days_count, compactness_count, stability_count}
use Rattle.tt_occupancy.proofs.Exchanging.{lectures_kept, conflicts_kept, availability_kept, occupancy_kept, capacity_kept, days_kept, compactness_kept, stability_kept}
use Rattle.tt_occupancy.proofs.rescoring.rescored.Goals as goal

pub exchanged-lectures-requires : goal.exchanged-lectures-requires
exchanged-lectures-requires c = let r = c.requires in
    (lectures_count r.0 (r.3 ∷ r.1), lectures_kept r.0 r.1 r.2 r.3 c.args.score c.args.from c.args.to r.4)

pub exchanged-conflicts-requires : goal.exchanged-conflicts-requires
exchanged-conflicts-requires c = let r = c.requires in
    (conflicts_count r.0 (r.3 ∷ r.1), conflicts_kept r.0 r.1 r.2 r.3 c.args.score c.args.from c.args.to r.4)

pub exchanged-availability-requires : goal.exchanged-availability-requires
exchanged-availability-requires c = let r = c.requires in
    (availability_count r.0 (r.3 ∷ r.1), availability_kept r.0 r.1 r.2 r.3 c.args.score c.args.from c.args.to r.4)

pub exchanged-room_occupancy-requires : goal.exchanged-room_occupancy-requires
exchanged-room_occupancy-requires c = let r = c.requires in
    (occupancy_count r.0 (r.3 ∷ r.1), occupancy_kept r.0 r.1 r.2 r.3 c.args.score c.args.from c.args.to r.4)

pub exchanged-room_capacity-requires : goal.exchanged-room_capacity-requires
exchanged-room_capacity-requires c = let r = c.requires in
    (capacity_count r.0 (r.3 ∷ r.1), capacity_kept r.0 r.1 r.2 r.3 c.args.score c.args.from c.args.to r.4)

pub exchanged-min_working_days-requires : goal.exchanged-min_working_days-requires
exchanged-min_working_days-requires c = let r = c.requires in
    (days_count r.0 (r.3 ∷ r.1), days_kept r.0 r.1 r.2 r.3 c.args.score c.args.from c.args.to r.4)

pub exchanged-compactness-requires : goal.exchanged-compactness-requires
exchanged-compactness-requires c = let r = c.requires in
    (compactness_count r.0 (r.3 ∷ r.1), compactness_kept r.0 r.1 r.2 r.3 c.args.score c.args.from c.args.to r.4)

pub exchanged-room_stability-requires : goal.exchanged-room_stability-requires
exchanged-room_stability-requires c = let r = c.requires in
    (stability_count r.0 (r.3 ∷ r.1), stability_kept r.0 r.1 r.2 r.3 c.args.score c.args.from c.args.to r.4)

pub invariant_of-result-clause-hard_fits : goal.invariant_of-result-clause-hard_fits
invariant_of-result-clause-hard_fits c =
    let r = c.requires in
    let lectures = lectures_kept r.0 r.1 r.2 r.3 c.args.score c.args.from c.args.to r.4 in
    let conflicts = conflicts_kept r.0 r.1 r.2 r.3 c.args.score c.args.from c.args.to r.4 in
    let availability = availability_kept r.0 r.1 r.2 r.3 c.args.score c.args.from c.args.to r.4 in
    let room_occupancy = occupancy_kept r.0 r.1 r.2 r.3 c.args.score c.args.from c.args.to r.4 in
    omega (
      arith,
      c.exchanged-lectures.ensures (lectures_count r.0 (r.3 ∷ r.1)) lectures,
      lectures.at_most,
      c.exchanged-conflicts.ensures (conflicts_count r.0 (r.3 ∷ r.1)) conflicts,
      conflicts.at_most,
      c.exchanged-availability.ensures (availability_count r.0 (r.3 ∷ r.1)) availability,
      availability.at_most,
      c.exchanged-room_occupancy.ensures (occupancy_count r.0 (r.3 ∷ r.1)) room_occupancy,
      room_occupancy.at_most,
    )

pub invariant_of-result-clause-cost_fits : goal.invariant_of-result-clause-cost_fits
invariant_of-result-clause-cost_fits c =
    let r = c.requires in
    let room_capacity = capacity_kept r.0 r.1 r.2 r.3 c.args.score c.args.from c.args.to r.4 in
    let min_working_days = days_kept r.0 r.1 r.2 r.3 c.args.score c.args.from c.args.to r.4 in
    let compactness = compactness_kept r.0 r.1 r.2 r.3 c.args.score c.args.from c.args.to r.4 in
    let room_stability = stability_kept r.0 r.1 r.2 r.3 c.args.score c.args.from c.args.to r.4 in
    omega (
      arith,
      c.exchanged-room_capacity.ensures (capacity_count r.0 (r.3 ∷ r.1)) room_capacity,
      room_capacity.at_most,
      c.exchanged-min_working_days.ensures (days_count r.0 (r.3 ∷ r.1)) min_working_days,
      min_working_days.at_most,
      c.exchanged-compactness.ensures (compactness_count r.0 (r.3 ∷ r.1)) compactness,
      compactness.at_most,
      c.exchanged-room_stability.ensures (stability_count r.0 (r.3 ∷ r.1)) room_stability,
      room_stability.at_most,
    )

pub returns : goal.returns
returns c = λ p u x y h. record {
  lectures = c.exchanged-lectures.ensures (lectures_count p (y ∷ u)) (lectures_kept p u x y c.args.score c.args.from c.args.to h);
  conflicts = c.exchanged-conflicts.ensures (conflicts_count p (y ∷ u)) (conflicts_kept p u x y c.args.score c.args.from c.args.to h);
  availability = c.exchanged-availability.ensures (availability_count p (y ∷ u))
      (availability_kept p u x y c.args.score c.args.from c.args.to h);
  room_occupancy = c.exchanged-room_occupancy.ensures (occupancy_count p (y ∷ u))
      (occupancy_kept p u x y c.args.score c.args.from c.args.to h);
  room_capacity = c.exchanged-room_capacity.ensures (capacity_count p (y ∷ u)) (capacity_kept p u x y c.args.score c.args.from c.args.to h);
  min_working_days = c.exchanged-min_working_days.ensures (days_count p (y ∷ u)) (days_kept p u x y c.args.score c.args.from c.args.to h);
  compactness = c.exchanged-compactness.ensures (compactness_count p (y ∷ u))
      (compactness_kept p u x y c.args.score c.args.from c.args.to h);
  room_stability = c.exchanged-room_stability.ensures (stability_count p (y ∷ u))
      (stability_kept p u x y c.args.score c.args.from c.args.to h);
}

use Rattle.std.proofs.Common.{◌∷◌, refl, sym, ap, arith}
use Rattle.std.proofs.lemmas.Int.{ints}
use Rattle.tt_moves.specs.Inner.RoomsAndDays.{room_and_day_cost}
use Rattle.tt_moves.proofs.RoomsAndDays.{room_and_day_exchanged, room_and_day_same}
use Rattle.tt_moves.proofs.exchanging.Exchange.room_and_day_change.Goals as goal

pub room_and_day_rise-before-requires : goal.room_and_day_rise-before-requires
room_and_day_rise-before-requires c =
    let x = c.requires.4 in
    record { in_range = x.rest.gone; course = refl; rest = (c.requires.1, x.rest) }

pub returns-clause-value : goal.returns-clause-value
returns-clause-value c = λ p u s t x.
    let q = c.args.self.now.rest.occupied.now.problem in
    let gone = c.args.self.now.rest.gone in
    let to = c.args.self.now.to in
    let by_weight = room_and_day_exchanged q u gone to x.rest.gone x.in_range (sym x.course) in
    let weighed_before = c.room_and_day_rise-before.ensures.value u x.rest in
    let weighed_after = c.room_and_day_rise-after.ensures.value u x.rest in
    let before = room_and_day_same p s (gone ∷ u) x.before in
    let after = room_and_day_same p t (to ∷ u) x.after in
    let same_before = ap (λ z. room_and_day_cost z (gone ∷ u)) x.problem in
    let same_after = ap (λ z. room_and_day_cost z (to ∷ u)) x.problem in
    omega (arith, ints)

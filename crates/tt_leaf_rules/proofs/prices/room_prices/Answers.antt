use Rattle.std.proofs.Common.{◌≡◌, ℕ, cond, length, take, ap, ◌∙◌, arith}
use Rattle.std.specs.Prelude.{sum_by}
use Rattle.std.proofs.Math.Seq.{take-length}
use Rattle.tt_list_laws.proofs.Sums.{sum_by-swap}
use Rattle.tt_instance.specs.Cells.{all_slots}
use Rattle.tt_instance.specs.Problem.{Problem}
use Rattle.tt_instance.specs.declared.cell.Slot.{Slot}
use Rattle.tt_leaf_rules.specs.Inner.Nested.{priced_live_in}
use Rattle.tt_leaf_rules.proofs.Covering.{paid_by_room}
use Rattle.tt_leaf_rules.proofs.prices.room_prices.Goals as goal

pub returns : goal.returns
returns g c =
    let p = g.P.Path.problem c.args.path.now in
    let path = g.P.Path.facts c.args.path.now in
    let paid : Slot → ℕ = λ s. sum_by (λ k. cond (priced_live_in p path c.args.courses.now k.0 s) k.1 0) c.args.rooms.now in
    let end : c.loop-place.place ≡ length (all_slots p) =
    omega (
      arith,
      c.slot_count-place-end.ensures.value,
      ap (λ (q : Problem). length (all_slots q)) c.instance-instance.ensures,
      c.loop-place-test.false,
      c.loop-place.auto.place-end,
    ) in
    c.loop-place.invariant.summed ∙ ap (λ (n : ℕ). sum_by paid (take n (all_slots p))) end ∙ ap (sum_by paid) (take-length (all_slots p))
    ∙ sum_by-swap (λ s k. cond (priced_live_in p path c.args.courses.now k.0 s) k.1 0) (all_slots p) c.args.rooms.now
    ∙ paid_by_room (λ r s. priced_live_in p path c.args.courses.now r s) (all_slots p) c.args.rooms.now

use Rattle.std.proofs.Common.{◌≡◌, ℕ, ◌+◌, true, false, get_or, sym, ap, ◌∙◌, arith}
use Rattle.tt_instance.specs.Cells.{slot}
use Rattle.tt_leaf_rules.specs.Inner.Nested.{priced_live_in}
use Rattle.tt_leaf_rules.proofs.Covering.{paid_more}
use Rattle.tt_leaf_rules.proofs.prices.paid_in_period.Goals as goal
use Rattle.tt_leaf_rules.proofs.prices.paid_in_period.Goals.{then-has_bit, else-has_bit}

pub loop-room-preserved : goal.loop-room-preserved
loop-room-preserved g c =
    let p = g.P.Path.problem c.args.path.now in
    let live = λ (r : ℕ). priced_live_in p (g.P.Path.facts c.args.path.now) c.args.courses.now r (slot c.args.day c.args.period) in
    let i = c.loop-room.room-index in
    let xs = c.args.rooms.now in
    let own : c.has_bit.result ≡ live (get_or xs i (0, 0)).0 = c.has_bit.ensures ∙ c.open_words-open.ensures (get_or xs i (0, 0)).0
    (c.requires.rooms i (0, 0) c.loop-room-test.true) in
    elim c.if-has_bit.branch [
      | then-has_bit w ↦ record {
        summed = paid_more live xs i c.loop-room.total c.if-has_bit.total true (0, 0) c.loop-room-test.true c.loop-room.invariant.summed
            (sym w.if-has_bit.true ∙ own) (w.total-is ∙ ap (λ (n : ℕ). c.loop-room.total + n) w.from-total.ensures);
        at_most = omega (arith, w.total-is, c.loop-room.invariant.at_most);
      }
      | else-has_bit w ↦ record {
        summed = paid_more live xs i c.loop-room.total c.if-has_bit.total false
            (0, 0) c.loop-room-test.true c.loop-room.invariant.summed (sym w.if-has_bit.false ∙ own) (omega (arith, w.total-is));
        at_most = omega (arith, w.total-is, c.loop-room.invariant.at_most);
      }
    ]

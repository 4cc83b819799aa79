use Rattle.std.proofs.Common.{refl, arith, inl, inr}
use Rattle.std.proofs.lemmas.Int.{ints}
use Rattle.tt_moves.proofs.changing.lowers.Goals as goal

pub returns-then-hard-lt0 : goal.returns-then-hard-lt0
returns-then-hard-lt0 c =
    let hard = c.hard_change-hard.ensures c.args.occupied.now c.args.step c.exchanges_of-exchanges.ensures in
    let fewer = c.if-hard-lt0.true in
    (λ _. inl (omega (arith, ints)), λ _. refl)

pub returns-then-hard-gt0 : goal.returns-then-hard-gt0
returns-then-hard-gt0 c =
    let hard = c.hard_change-hard.ensures c.args.occupied.now c.args.step c.exchanges_of-exchanges.ensures in
    let more = c.if-hard-gt0.true in (
      λ low. absurd (cc),
      λ below. elim below [
        | inl fewer ↦ absurd (omega (arith, ints))
        | inr as_many ↦ absurd (omega (arith, ints))
      ],
    )

pub returns-then-outweighs : goal.returns-then-outweighs
returns-then-outweighs c =
    let o = c.args.occupied.now in
    let hard = c.hard_change-hard.ensures o c.args.step c.exchanges_of-exchanges.ensures in
    let rise = c.room_and_day_change-rise.ensures o c.args.step c.exchanges_of-exchanges.ensures in
    let compactness = c.score.ensures.compactness in
    let outweighs = c.outweighs.ensures c.if-outweighs.true in
    let not_fewer = c.if-hard-lt0.false in (
      λ low. absurd (cc),
      λ below. elim below [
        | inl fewer ↦ absurd (omega (arith, ints))
        | inr as_many ↦ absurd (omega (arith, ints))
      ],
    )

pub returns : goal.returns
returns c =
    let o = c.args.occupied.now in
    let hard = c.hard_change-hard.ensures o c.args.step c.exchanges_of-exchanges.ensures in
    let cost = c.cost_change.ensures o c.args.step c.exchanges_of-exchanges.ensures in
    let not_fewer = c.if-hard-lt0.false in
    let not_more = c.if-hard-gt0.false in (
      λ low. inr (omega (arith, ints), omega (arith, ints)),
      λ below. elim below [
        | inl fewer ↦ absurd (omega (arith, ints))
        | inr as_many ↦ grind (arith, ints)
      ],
    )

use Rattle.std.proofs.Common.{◌≡◌, ℕ, ◌+◌, ◌-◌, ◌*◌, ◌<◌, ◌&&◌, List, length, sym, ap, ◌∙◌, inl, inr, arith}
use Rattle.std.specs.Prelude.{nat_lt}
use Rattle.std.proofs.lemmas.Bool.{cases_lt}
use Rattle.tt_bits.specs.Inner.Bits.{has_bit}
use Rattle.tt_instance.specs.Courses.{excess}
use Rattle.tt_instance.specs.Problem.{Problem}
use Rattle.tt_list_laws.proofs.Range.{all_below}
use Rattle.tt_leaf_rules.specs.Claims.{price_in}
use Rattle.tt_leaf_rules.specs.Inner.Nested.{covered_in}
use Rattle.tt_leaf_rules.proofs.Covering.{block_covered, block_not_covered}
use Rattle.tt_leaf_rules.proofs.prices.is_covered.Goals as goal

-- the rooms that are too cheap, by the instance of the path
dears : (p q : Problem) (rooms : List (ℕ × ℕ)) (k : ℕ × ℕ) (b dear : ℕ) → q ≡ p
    → ((n : ℕ) → n < 64
    → has_bit dear n ≡ (nat_lt (b * 64 + n) (length q.rooms) && nat_lt (excess q k.0 (b * 64 + n) + price_in rooms (b * 64 + n)) k.1))
    → (n : ℕ) → n < 64
    → has_bit dear n ≡ (nat_lt (b * 64 + n) (length p.rooms) && nat_lt (excess p k.0 (b * 64 + n) + price_in rooms (b * 64 + n)) k.1)
dears p q rooms k b dear same is n low =
    is n low ∙ ap
    (λ (z : Problem). nat_lt (b * 64 + n) (length z.rooms) && nat_lt (excess z k.0 (b * 64 + n) + price_in rooms (b * 64 + n)) k.1) same

pub loop-block-preserved : goal.loop-block-preserved
loop-block-preserved g c = λ r low there.
    let p = g.P.Path.problem c.args.path.now in
    let path = g.P.Path.facts c.args.path.now in
    let b = c.loop-block.block in
    let dear = c.dear_rooms-dear.result in
    elim (cases_lt r (b * 64)) [
      | inl l ↦ c.loop-block.invariant r l there
      | inr h ↦
          let number : b * 64 + (r - b * 64) ≡ r = omega (arith, h) in
          ap (covered_in p path c.args.prices.now c.args.priced) (sym number)
          ∙ block_covered p path c.args.prices.now c.args.priced b dear
          (dears p c.instance-instance.result.now c.args.prices.now c.args.priced b dear c.instance-instance.ensures
          c.dear_rooms-dear.ensures)
          (sym c.if-not-is_block_clear.ensures) (r - b * 64) (omega (arith, low)) (omega (arith, number, there))
    ]

pub returns-then-not-is_block_clear : goal.returns-then-not-is_block_clear
returns-then-not-is_block_clear g c =
    let p = g.P.Path.problem c.args.path.now in
    let b = c.loop-block.block in
    let dear = c.dear_rooms-dear.result in
    sym (block_not_covered p (g.P.Path.facts c.args.path.now) c.args.prices.now c.args.priced b dear
    (dears p c.instance-instance.result.now c.args.prices.now c.args.priced b dear c.instance-instance.ensures
    c.dear_rooms-dear.ensures) (sym c.if-not-is_block_clear.ensures))

pub returns : goal.returns
returns g c =
    let p = g.P.Path.problem c.args.path.now in
    sym (all_below (covered_in p (g.P.Path.facts c.args.path.now) c.args.prices.now c.args.priced) (length p.rooms) (λ r there.
    c.loop-block.invariant r
    (omega (
      arith,
      there,
      c.block_count-block-end.ensures.whole,
      c.loop-block-test.false,
      ap (λ (q : Problem). length q.rooms) c.instance-instance.ensures,
    )) there))

use Rattle.std.proofs.Common.{arith}
use Rattle.std.proofs.lemmas.List.Elements.{All-head, All-tail, All-cons}
use Rattle.tt_instance.specs.Cells.{InRange}
use Rattle.tt_occupancy.proofs.Exchanging.{exchange}
use Rattle.tt_occupancy.proofs.recounting.recount.Goals as goal

pub take-requires-clause-in_range : goal.take-requires-clause-in_range
take-requires-clause-in_range c = let h = c.requires.counted in All-head (InRange c.args.instance.now) c.args.from h.0 h.1.in_range

pub take-requires-clause-counted : goal.take-requires-clause-counted
take-requires-clause-counted c = let h = c.requires.counted in (h.0, h.1.tables)

pub weigh-before-requires-clause-in_range : goal.weigh-before-requires-clause-in_range
weigh-before-requires-clause-in_range c = let h = c.requires.counted in All-head (InRange c.args.instance.now) c.args.from h.0 h.1.in_range

pub weigh-before-requires-clause-counted : goal.weigh-before-requires-clause-counted
weigh-before-requires-clause-counted c = let h = c.requires.counted in (h.0, c.take.ensures h.0 h.1.tables)

pub weigh-after-requires-clause-counted : goal.weigh-after-requires-clause-counted
weigh-after-requires-clause-counted c = let h = c.requires.counted in (h.0, c.take.ensures h.0 h.1.tables)

pub add-requires-clause-counted : goal.add-requires-clause-counted
add-requires-clause-counted c = let h = c.requires.counted in let at_most = h.1.at_most in (h.0, c.take.ensures h.0 h.1.tables, omega arith)

pub rescored-requires : goal.rescored-requires
rescored-requires c =
    let p = c.args.instance.now in
    let u = c.requires.counted.0 in
    let h = c.requires.counted.1 in
    let rest = All-tail (InRange p) c.args.from u h.in_range in
    let taken = c.take.ensures u h.tables in (
      p,
      u,
      c.args.from,
      c.args.to,
      exchange p u c.args.from c.args.to c.args.tables.now c.args.score c.weigh-before.result
          c.weigh-after.result h c.requires.in_range c.requires.course (c.weigh-before.ensures u rest taken)
          (c.weigh-after.ensures u rest taken),
    )

pub returns : goal.returns
returns c = λ u h.
    let p = c.args.instance.now in
    let rest = All-tail (InRange p) c.args.from u h.in_range in
    let taken = c.take.ensures u h.tables in
    let at_most = h.at_most in
    record {
      instance = h.instance;
      in_range = All-cons (InRange p) c.args.to u c.requires.in_range rest;
      at_most = omega arith;
      tables = c.add.ensures u taken;
      score = c.rescored.ensures p u c.args.from c.args.to
          (exchange p u c.args.from c.args.to c.args.tables.now c.args.score c.weigh-before.result c.weigh-after.result h
          c.requires.in_range c.requires.course (c.weigh-before.ensures u rest taken) (c.weigh-after.ensures u rest taken));
    }

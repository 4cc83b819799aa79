use Rattle.std.proofs.Common.{All, subst, ap}
use Rattle.std.specs.Prelude.{flat_map}
use Rattle.std.proofs.lemmas.List.Elements.{All-head, All-rest}
use Rattle.tt_leaf_rules.specs.Inner.NumberSet.{places_of, IsPlaced}
use Rattle.tt_leaf_rules.specs.Tests.{claims_once}
use Rattle.tt_leaf_rules.proofs.Meeting.{claims_at_first, met_goes_on}
use Rattle.tt_leaf_rules.proofs.targets.are_new.Goals as goal

pub loop-first-init : goal.loop-first-init
loop-first-init c = record { same = claims_at_first c.none-taken.result c.args.claims.now c.none-taken.ensures; placed = c.requires }

pub insert_targets-requires : goal.insert_targets-requires
insert_targets-requires c = All-head IsPlaced c.in-Some.first.now c.in-Some.others.now
    (subst (All IsPlaced) c.in-Some.ensures.cases.0 c.loop-first.invariant.placed)

pub loop-first-preserved : goal.loop-first-preserved
loop-first-preserved c =
    let before = c.loop-first.invariant in
    let first = c.in-Some.first.now in
    let others = c.in-Some.others.now in
    record {
      same = met_goes_on (claims_once c.args.claims.now) c.insert_targets.result c.loop-first.taken c.insert_targets.new.taken
          (flat_map places_of c.loop-first.rest.now) (places_of first) (flat_map places_of others) before.same
          (ap (flat_map places_of) c.in-Some.ensures.cases.0) (c.insert_targets.ensures (flat_map places_of others))
          c.if-not-insert_targets.false;
      placed = All-rest IsPlaced first others c.loop-first.rest.now c.in-Some.ensures.cases.0 before.placed;
    }

use Rattle.std.proofs.Common.{◌<◌, ◌∷◌, []}
use Rattle.std.proofs.lemmas.List.Elements.{All-rest}
use Rattle.tt_list_laws.specs.Words.{are_distinct}
use Rattle.tt_leaf_rules.proofs.Meeting.{new_at_first, met_goes_on}
use Rattle.tt_leaf_rules.proofs.groups.are_new.Goals as goal

pub loop-first-init : goal.loop-first-init
loop-first-init c = record { same = new_at_first c.none-taken.result c.args.courses.now c.none-taken.ensures; below = c.requires }

pub loop-first-preserved : goal.loop-first-preserved
loop-first-preserved c =
    let before = c.loop-first.invariant in
    let first = c.in-Some.first.now in
    let others = c.in-Some.others.now in
    record {
      same = met_goes_on (are_distinct c.args.courses.now) c.insert.result c.loop-first.taken c.insert.new.self c.loop-first.rest.now
          (first ∷ []) others before.same c.in-Some.ensures.cases.0 (c.insert.ensures others) c.if-not-insert.false;
      below = All-rest (λ n. n < 2048) first others c.loop-first.rest.now c.in-Some.ensures.cases.0 before.below;
    }

use Rattle.std.proofs.Common.{ℕ, List, [], ◌*◌, ◌<◌, ◌∷◌, ◌++◌, map, ap}
use Rattle.std.proofs.lemmas.List.Elements.{All-rest}
use Rattle.tt_leaf_rules.specs.Inner.NumberSet.{are_new}
use Rattle.tt_leaf_rules.proofs.Meeting.{met_goes_on}
use Rattle.tt_leaf_rules.proofs.targets.insert_capacities.Goals as goal

pub loop-first-preserved : goal.loop-first-preserved
loop-first-preserved c =
    let before = c.loop-first.invariant in
    let first = c.in-Some.first.now in
    let others = c.in-Some.others.now in
    let places : List (ℕ × ℕ) → List ℕ = map (λ k. 4 * k.0) in
    let rest = ap places c.in-Some.ensures.cases.0 in
    record {
      same = λ behind. met_goes_on (are_new c.args.taken.now (places c.args.courses.now ++ behind)) c.insert.result c.loop-first.taken
          c.insert.new.self (places c.loop-first.rest.now ++ behind) (4 * first.0 ∷ []) (places others ++ behind) (before.same behind)
          (ap (λ l. l ++ behind) rest) (c.insert.ensures (places others ++ behind)) c.if-not-insert.false;
      placed = All-rest (λ n. n < 32768) (4 * first.0) (places others) (places c.loop-first.rest.now) rest before.placed;
    }

use Rattle.std.proofs.Common.{◌≡◌, ◌<◌, ◌≤◌, true, length, sym, arith, rules}
use Rattle.std.proofs.lemmas.Option.{get_or_from_slice_get}
use Rattle.tt_path.specs.declared.facts.Fact.{Fact}
use Rattle.tt_leaf_rules.specs.Leaves.{IsRight}
use Rattle.tt_leaf.specs.declared.leaf.Leaf.TheVariants.{Empty}
use Rattle.tt_leaf_find.proofs.find.find_empty.Goals as goal
use Rattle.tt_list_laws.proofs.Beginnings.{All_more, All_done}

pub loop-index-preserved : goal.loop-index-preserved
loop-index-preserved g c =
    let p = g.P.Path.problem c.args.path.now in
    let facts = g.P.Path.facts c.args.path.now in
    let unright : Fact → Type 0 = λ f. f.holds ≡ true → ¬ IsRight p facts c.args.bound (Empty f.pattern) in
    let below : c.loop-index.index < length facts = omega (arith, c.depth-index-end.ensures.value) in
    let same = sym (get_or_from_slice_get facts c.loop-index.index c.fact.result c.fact.result c.fact.ensures) in
    All_more unright facts c.loop-index.index c.fact.result c.fact.result below same c.loop-index.invariant (search rules)

pub returns-clause-none : goal.returns-clause-none
returns-clause-none g c =
    let p = g.P.Path.problem c.args.path.now in
    let facts = g.P.Path.facts c.args.path.now in
    let unright : Fact → Type 0 = λ f. f.holds ≡ true → ¬ IsRight p facts c.args.bound (Empty f.pattern) in
    let all : length facts ≤ c.loop-index.index = omega (arith, c.depth-index-end.ensures.value) in
    λ _. All_done unright facts c.loop-index.index all c.loop-index.invariant

use Rattle.std.proofs.Common.{◌≡◌, ◌-◌, ◌++◌, List, length, take, ap, ◌∙◌, subst}
use Rattle.std.specs.Prelude.{reverse, OnOk}
use Rattle.tt_path.specs.declared.facts.Fact.{Fact}
use Rattle.tt_branch.proofs.Moving.{joined}
use Rattle.tt_branch.proofs.moves.move_to.Goals as goal

pub returns-clause-moved : goal.returns-clause-moved
returns-clause-moved g c =
    let old = g.P.Path.facts c.args.path.now in
    let facts = c.args.facts.now in
    let root = c.args.root_depth in
    let kept = c.shared-kept.result in
    let s = c.shared-kept.ensures in
    let e = ap (λ (l : List Fact). l ++ reverse (take (length facts - (kept - root)) facts)) c.pop_to.ensures.facts
    ∙ joined old facts root kept s.root s.there s.reversed in
    subst (λ (l : List Fact). OnOk c.push_first.result (g.P.Path.facts c.push_first.new.path ≡ l)) e c.push_first.ensures.moved

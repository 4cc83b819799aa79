use Rattle.std.proofs.Common.{◌++◌, sym, ap, ◌∙◌}
use Rattle.std.proofs.lemmas.List.{append-nil}
use Rattle.tt_leaf_find.proofs.Seated.{no_claim}
use Rattle.tt_leaf_find.proofs.best.push_capacity_of.Goals as goal

pub returns-then-has_seats-clause-worth : goal.returns-then-has_seats-clause-worth
returns-then-has_seats-clause-worth g c =
    let p = g.P.Path.problem c.args.path.now in
    let facts = g.P.Path.facts c.args.path.now in
    let old = c.args.claims.now.items in
    sym (append-nil old) ∙ ap (λ l. old ++ l) (sym (no_claim p facts c.args.course (c.has_seats.ensures c.if-has_seats.true)))

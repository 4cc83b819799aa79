use Rattle.std.proofs.Common.{refl, sym, subst, ◌∙◌}
use Rattle.tt_instance.specs.Problem.{Problem}
use Rattle.tt_table.specs.Table.{IsTimetable}
use Rattle.tt_occupancy.specs.Filled.{Filled}
use Rattle.tt_walk.specs.Improved.{IsNoWorse, LeadsWithin}
use Rattle.tt_search.proofs.improving.anneal_to_best.Goals as goal

pub walk_by_annealing-requires-clause-in_range : goal.walk_by_annealing-requires-clause-in_range
walk_by_annealing-requires-clause-in_range g c =
    rw (c.deref.ensures.value ∙ c.in_ok-first.ensures.items ∙ c.entries.ensures.value ∙ c.table.ensures.value) c.table.ensures.in_range

pub walk_by_annealing-requires-clause-best : goal.walk_by_annealing-requires-clause-best
walk_by_annealing-requires-clause-best g c =
    (c.in_ok-standing.standing.occupied.entries, refl, c.in_ok-standing.ensures.best)

pub return_to_best-requires-clause-in_range : goal.return_to_best-requires-clause-in_range
return_to_best-requires-clause-in_range g c =
    let walk = c.walk_by_annealing.ensures in
    let best = walk.best c.in_ok-standing.standing.occupied.entries refl c.in_ok-standing.ensures.best in
    subst (λ (p : Problem). IsTimetable p c.walk_by_annealing.new.standing.best.entries.items) (sym walk.problem) best.found.timetable

pub return_to_best-requires-clause-courses : goal.return_to_best-requires-clause-courses
return_to_best-requires-clause-courses g c =
    let walk = c.walk_by_annealing.ensures in
    let best = walk.best c.in_ok-standing.standing.occupied.entries refl c.in_ok-standing.ensures.best in
    walk.courses ∙ sym best.found.courses

pub returns-clause-best : goal.returns-clause-best
returns-clause-best g c =
    let begun = c.in_ok-standing in
    let best = c.walk_by_annealing.ensures.best begun.standing.occupied.entries refl begun.ensures.best in
    subst (λ (o : Filled). IsNoWorse o.problem o.entries c.return_to_best.new.standing.occupied.entries) begun.ensures.occupied
    (rw c.return_to_best.ensures best.found)

pub returns-clause-reached : goal.returns-clause-reached
returns-clause-reached g c =
    let begun = c.in_ok-standing in
    let first = c.deref.ensures.value ∙ c.in_ok-first.ensures.items ∙ c.entries.ensures.value ∙ c.table.ensures.value in
    let reached = c.walk_by_annealing.ensures.reached (begun.ensures.here ∙ sym first) in
    subst (λ (o : Filled). LeadsWithin o.problem o.entries c.args.draws c.return_to_best.new.standing.occupied.entries)
    begun.ensures.occupied
    (rw c.return_to_best.ensures (rw first at reached))

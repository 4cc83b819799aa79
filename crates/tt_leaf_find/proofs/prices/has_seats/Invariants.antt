use Rattle.std.proofs.Common.{◌≡◌, take}
use Rattle.std.specs.Prelude.{count_by}
use Rattle.tt_instance.specs.Cells.{all_slots}
use Rattle.tt_leaf_find.specs.Inner.Seated.{is_seated}
use Rattle.tt_leaf_find.proofs.prices.has_seats.Given as goal

abbrev pub invariant-loop-place : goal.invariant-loop-place
invariant-loop-place g l =
    let p = g.P.Path.problem l.path in
    l.seated ≡ count_by (is_seated p (g.P.Path.facts l.path) l.course) (take l.place (all_slots p))

use Rattle.std.proofs.Common.{◌≡◌, ◌≤◌, take}
use Rattle.std.specs.Prelude.{All}
use Rattle.std.specs.List.{filter_map}
use Rattle.tt_instance.specs.Cells.{all_slots}
use Rattle.tt_path.specs.Live.{least_excess}
use Rattle.tt_leaf_find.proofs.prices.least_excesses.Given as goal

abbrev pub invariant-loop-place : goal.invariant-loop-place
invariant-loop-place g l =
    let p = g.P.Path.problem l.path in
    record {
      found : l.excesses.items ≡ filter_map (least_excess p (g.P.Path.facts l.path) l.course) (take l.place (all_slots p));
      within : All (λ n. n ≤ 1000000) l.excesses.items;
    }

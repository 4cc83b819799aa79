use Rattle.std.proofs.Common.{◌≡◌, ◌+◌, ◌*◌, ◌≤◌, length}
use Rattle.tt_branch.specs.Inner.Growing.{opened_in}
use Rattle.tt_branch.specs.Inner.BestSoFar.{Advances}
use Rattle.tt_branch.specs.Inner.Links.{IsRooted}
use Rattle.tt_branch.specs.Inner.State.{IsUnderWay}
use Rattle.tt_branch.proofs.rounds.grow.Given as goal

abbrev pub invariant-loop-opened : goal.invariant-loop-opened
invariant-loop-opened g l =
    let p = g.P.Path.problem l.fn.path in
    record {
      same : g.P.Path.problem l.path ≡ p;
      rooted : IsRooted l.root (g.P.Path.facts l.path);
      under_way : IsUnderWay p l.root l.search;
      better : Advances p l.root l.fn.search.best l.search.best;
      opened : opened_in l.search.tree_nodes.items ≡ l.opened;
      at_most : length l.search.tree_nodes.items + 1 ≤ 2 * l.opened;
    }

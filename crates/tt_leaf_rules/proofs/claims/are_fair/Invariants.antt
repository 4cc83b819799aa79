use Rattle.std.proofs.Common.{◌≡◌, true, take}
use Rattle.std.specs.List.{list_all}
use Rattle.tt_leaf_rules.specs.Claims.{is_fair}
use Rattle.tt_leaf_rules.proofs.claims.are_fair.Given as goal

abbrev pub invariant-loop-claim : goal.invariant-loop-claim
invariant-loop-claim g l =
    list_all (is_fair (g.P.Path.problem l.path) (g.P.Path.facts l.path)) (take l.claim-index l.claims) ≡ true

use Rattle.std.proofs.Common.{◌≡◌, ◌≤◌, ◌*◌, ◌-◌, ◌^◌, min, length, take}
use Rattle.tt_leaf_rules.specs.Claims.{claimed, total_of}
use Rattle.tt_leaf_rules.proofs.claims.total.Given as goal

abbrev pub invariant-loop-claim : goal.invariant-loop-claim
invariant-loop-claim g l =
    let sum = total_of (g.P.Path.problem l.path) (g.P.Path.facts l.path) (take l.claim-index l.claims) in
    record { summed : l.total ≡ min sum (2 ^ 64 - 1); at_most : sum ≤ length (claimed (take l.claim-index l.claims)) * 2 ^ 44 }

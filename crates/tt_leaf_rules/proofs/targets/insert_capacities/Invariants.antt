use Rattle.std.proofs.Common.{◌≡◌, ℕ, ◌*◌, ◌<◌, ◌++◌, List, map, length}
use Rattle.std.specs.Prelude.{All}
use Rattle.tt_leaf_rules.specs.Inner.NumberSet.{are_new}
use Rattle.tt_leaf_rules.proofs.targets.insert_capacities.Given as goal

abbrev pub invariant-loop-first : goal.invariant-loop-first
invariant-loop-first l = record {
  same : (behind : List ℕ) → are_new l.fn.taken (map (λ k. 4 * k.0) l.courses ++ behind) ≡ are_new l.taken
      (map (λ k. 4 * k.0) l.rest ++ behind);
  placed : All (λ n. n < 32768) (map (λ k. 4 * k.0) l.rest);
}

abbrev pub decreases-loop-first : goal.decreases-loop-first
decreases-loop-first l = length l.rest

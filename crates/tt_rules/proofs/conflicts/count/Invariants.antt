use Rattle.std.proofs.Common.{◌≡◌, ◌≤◌, ◌*◌, ◌+◌, drop}
use Rattle.tt_list_laws.specs.Words.{count_pairs}
use Rattle.tt_rules.specs.Hard.{collide}
use Rattle.tt_rules.proofs.conflicts.count.Given as goal

abbrev pub invariant-loop-index : goal.invariant-loop-index
invariant-loop-index l = record {
  counted : l.total + count_pairs (collide l.instance) (drop l.index l.entries) ≡ count_pairs (collide l.instance) l.entries;
  at_most : l.total ≤ l.index * 16384;
}

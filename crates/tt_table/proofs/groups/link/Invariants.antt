use Rattle.std.proofs.Common.{◌≡◌, ◌-◌, length}
use Rattle.tt_table.specs.Groups.{NamesNext, NamesFirst}
use Rattle.tt_table.proofs.groups.link.Given as goal

abbrev pub invariant-loop-behind : goal.invariant-loop-behind
invariant-loop-behind l = record {
  groups : length l.links.first ≡ 2048;
  room : length l.links.next ≡ 16384;
  begins : NamesFirst l.by l.entries l.links.first (length l.entries - l.behind);
  named : NamesNext l.by l.entries l.links.next (length l.entries - l.behind);
}

use Rattle.std.proofs.Common.{◌≡◌, false, take}
use Rattle.std.specs.Prelude.{IfSome, IsNone}
use Rattle.std.specs.List.{list_any}
use Rattle.tt_branch.specs.Inner.Growing.{IsOpenAt, is_open}
use Rattle.tt_branch.proofs.search.next_open.Given as goal

abbrev pub invariant-loop-place : goal.invariant-loop-place
invariant-loop-place l = record {
  some : IfSome l.found (IsOpenAt l.tree_nodes);
  none : IsNone l.found → list_any (λ e. is_open e.mark) (take l.place l.tree_nodes) ≡ false;
}

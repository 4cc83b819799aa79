use Rattle.std.proofs.Common.{◌≡◌, ◌≤◌, ◌*◌, ◌&&◌, length}
use Rattle.std.specs.Prelude.{nat_lt, count_by}
use Rattle.tt_list_laws.specs.Words.{range_below}
use Rattle.tt_path.specs.Live.{pinned_room}
use Rattle.tt_leaf_rules.proofs.stable.pinned_rooms.Given as goal

abbrev pub invariant-loop-block : goal.invariant-loop-block
invariant-loop-block g l =
    let p = g.P.Path.problem l.path in
    record {
      counted : l.total ≡ count_by (λ r. nat_lt r (length p.rooms) && pinned_room p (g.P.Path.facts l.path) l.course r)
          (range_below (l.block * 64));
      at_most : l.total ≤ l.block * 64;
    }

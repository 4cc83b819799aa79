use Rattle.std.proofs.Common.{◌≡◌, ◌≤◌, map}
use Rattle.std.specs.Prelude.{filter, IfSome}
use Rattle.tt_list_laws.specs.Words.{range_below}
use Rattle.tt_instance.specs.Cells.{slot, cell}
use Rattle.tt_instance.specs.Courses.{excess}
use Rattle.tt_path.specs.Live.{least, is_live}
use Rattle.tt_path.proofs.plain.PlainPathPath.least_excess.Given as goal

abbrev pub invariant-loop-room : goal.invariant-loop-room
invariant-loop-room l =
    let p = l.self.problem in
    record {
      value : l.least ≡ least
          (map (excess p l.course) (filter (λ r. is_live p l.self.facts (cell l.course r (slot l.day l.period))) (range_below l.room)));
      within : IfSome l.least (λ n. n ≤ 1000000);
    }

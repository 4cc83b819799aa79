use Rattle.std.proofs.Common.{◌≡◌, ◌&&◌}
use Rattle.std.specs.Prelude.{nat_lt}
use Rattle.tt_path_tables.specs.Inner.Tables.{Loses}
use Rattle.tt_path_tables.specs.Inner.Struck.{is_struck}
use Rattle.tt_path_tables.proofs.killing.kill.Given as goal

abbrev pub invariant-loop-course : goal.invariant-loop-course
invariant-loop-course l =
    let p = l.basis.instance.now in
    record {
      loses : Loses p l.fn.live.words (λ x. nat_lt x.course l.course &&
          is_struck p l.basis.free.now.words l.demand.pattern.now l.slot.day l.slot.period l.demand.courses.now x) l.live.words;
      earlier : l.live.earlier ≡ l.fn.live.earlier;
    }

use Rattle.std.proofs.Common.{take}
use Rattle.std.specs.Prelude.{MatchOption}
use Rattle.tt_path_tables.specs.Inner.Slots.{is_left_in, IsNone, IsFirst}
use Rattle.tt_path_tables.proofs.periods.first_left.Given as goal

abbrev pub invariant-loop-course : goal.invariant-loop-course
invariant-loop-course l =
    let left = is_left_in l.basis.instance.now l.basis.free.now.words l.demand.pattern.now (take l.course-index l.demand.courses.now) in
    MatchOption l.first (IsNone left l.fn.from l.fn.to) (λ k. IsFirst left l.fn.from l.fn.to k)

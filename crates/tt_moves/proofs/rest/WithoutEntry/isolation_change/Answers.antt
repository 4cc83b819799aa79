use Rattle.std.proofs.Common.{sym, ap, ◌∙◌, subst, arith, take}
use Rattle.std.specs.Prelude.{filter}
use Rattle.std.proofs.lemmas.List.{take_all, take_more}
use Rattle.tt_instance.specs.Cells.{all_curricula}
use Rattle.tt_instance.specs.Courses.{in_curriculum}
use Rattle.tt_occupancy.specs.Inner.NeighbourCounts.{IsIsolationChange}
use Rattle.tt_occupancy.proofs.TakenPeriods.{gaps_alone, gaps_joined}
use Rattle.tt_moves.proofs.rest.WithoutEntry.isolation_change.Goals as goal

pub loop-curriculum-preserved : goal.loop-curriculum-preserved
loop-curriculum-preserved c =
    let p = c.args.self.now.occupied.now.problem in
    let e = c.args.entry in
    let rows = c.curricula-curriculum-items.result.now in
    let k = c.loop-curriculum.curriculum-index in
    record {
      isolation_change = λ u rest.
          subst (λ z. IsIsolationChange p u z e.day e.period c.with-isolation_change.result)
          (sym (take_more rows k 0 c.loop-curriculum-test.true))
          (c.with-isolation_change.ensures.isolation_change u (take k rows) rest (c.loop-curriculum.invariant.isolation_change u rest));
      alone_at_most = omega (arith, c.with-isolation_change.ensures.alone_at_most);
      joined_at_most = omega (arith, c.with-isolation_change.ensures.joined_at_most);
    }

pub returns-clause-alone : goal.returns-clause-alone
returns-clause-alone c = λ u rest.
    let p = c.args.self.now.occupied.now.problem in
    let e = c.args.entry in
    let rows = c.curricula-curriculum-items.result.now in
    let are = c.curricula-curriculum-items.ensures.value ∙ ap (λ k. filter (λ q. in_curriculum p q k) (all_curricula p))
    (sym c.requires.course) in
    let all = take_all c.loop-curriculum.curriculum-index rows c.loop-curriculum-test.false in
    gaps_alone p u e rows are c.loop-curriculum.isolation_change
    (subst (λ z. IsIsolationChange p u z e.day e.period c.loop-curriculum.isolation_change) all
    (c.loop-curriculum.invariant.isolation_change u rest))

pub returns-clause-joined : goal.returns-clause-joined
returns-clause-joined c = λ u rest.
    let p = c.args.self.now.occupied.now.problem in
    let e = c.args.entry in
    let rows = c.curricula-curriculum-items.result.now in
    let are = c.curricula-curriculum-items.ensures.value ∙ ap (λ k. filter (λ q. in_curriculum p q k) (all_curricula p))
    (sym c.requires.course) in
    let all = take_all c.loop-curriculum.curriculum-index rows c.loop-curriculum-test.false in
    gaps_joined p u e rows are c.loop-curriculum.isolation_change
    (subst (λ z. IsIsolationChange p u z e.day e.period c.loop-curriculum.isolation_change) all
    (c.loop-curriculum.invariant.isolation_change u rest))

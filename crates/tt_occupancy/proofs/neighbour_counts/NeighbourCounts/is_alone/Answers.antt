use Rattle.std.proofs.Common.{◌&&◌, sym, ap, ◌∙◌, eq-eqb, ne_eqb}
use Rattle.std.specs.Prelude.{◌==◌}
use Rattle.tt_occupancy.proofs.TakenPeriods.{alone_is}
use Rattle.tt_occupancy.proofs.neighbour_counts.NeighbourCounts.is_alone.Goals as goal

pub returns-then-self-eq0 : goal.returns-then-self-eq0
returns-then-self-eq0 c = λ p u q d s ok.
    let a = c.args.self in
    sym (ap (λ b. b && (a.after == 0)) (eq-eqb a.before 0 c.if-self-eq0.true)) ∙ alone_is p u q d s a ok

pub returns-else-self-eq0 : goal.returns-else-self-eq0
returns-else-self-eq0 c = λ p u q d s ok.
    let a = c.args.self in
    let none = ne_eqb a.before 0 c.if-self-eq0.false in
    none ∙ sym (ap (λ b. b && (a.after == 0)) none) ∙ alone_is p u q d s a ok

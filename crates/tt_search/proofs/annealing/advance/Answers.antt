use Rattle.std.proofs.Common.{List, length, sym, subst, inl, inr, arith}
use Rattle.tt_instance.specs.declared.cell.Cell.{Cell}
use Rattle.tt_occupancy.specs.Filled.{Filled}
use Rattle.tt_walk.specs.Improved.{LeadsWithin}
use Rattle.tt_walk.specs.declared.best.Best.{Best}
use Rattle.tt_walk.proofs.Improvements.{leads_more}
use Rattle.tt_search.proofs.annealing.advance.Goals as goal

pub returns-clause-reached : goal.returns-clause-reached
returns-clause-reached c =
    let p = c.args.standing.now.occupied.problem in
    let first = c.args.first.now in
    let draws = c.args.draws in
    let count = length c.moves-moves.result.now in
    let last = c.make_steps.new.occupied.entries in
    let made = subst (λ (o : Filled). LeadsWithin o.problem o.entries count last) c.restore.ensures c.make_steps.ensures.reached in
    let within = leads_more draws made (omega arith) in
    λ led. elim c.keep.ensures.either [
      | inl old ↦ subst (λ (b : Best). LeadsWithin p first draws b.entries.items) (sym old) led
      | inr new ↦ subst (λ (t : List Cell). LeadsWithin p first draws t) (sym new) within
    ]

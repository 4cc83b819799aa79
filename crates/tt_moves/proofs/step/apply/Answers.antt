use Rattle.tt_moves.proofs.Undoing.{move_back, swap_back}
use Rattle.tt_moves.proofs.step.apply.Goals as goal

pub returns-in-Move-clause-back : goal.returns-in-Move-clause-back
returns-in-Move-clause-back c =
    let w = c.in-Move in
    let o = c.args.occupied.now in
    move_back o.problem o.entries c.args.step c.requires w.entry w.room w.day w.period c.entry-from.result w.is c.entry-from.ensures.value

pub returns-in-Swap-clause-back : goal.returns-in-Swap-clause-back
returns-in-Swap-clause-back c =
    let w = c.in-Swap in
    let o = c.args.occupied.now in
    swap_back o.problem o.entries c.args.step c.requires w.first w.second w.is

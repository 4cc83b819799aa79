use Rattle.tt_plans_redraw.proofs.days.Days.+spell.Given as goal

abbrev pub decreases-spell : goal.decreases-spell
decreases-spell l = l.left

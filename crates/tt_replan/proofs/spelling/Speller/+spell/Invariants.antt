use Rattle.tt_replan.proofs.spelling.Speller.+spell.Given as goal

abbrev pub decreases-spell : goal.decreases-spell
decreases-spell l = l.left

use Rattle.tt_table.proofs.EntryLaws.{found_in, fits_in, solution_read, solution_spelled, solution_once}
use Rattle.tt_table.proofs.reading.read_solution.Goals as goal

pub returns-clause-found : goal.returns-clause-found
returns-clause-found c = found_in _ _ c.read_table.result c.days.ensures.instance.within c.read_table.ensures

pub returns-clause-only : goal.returns-clause-only
returns-clause-only c = λ t spelled. rw (← solution_read _ _ t c.days.ensures.instance.within spelled) c.read_table.ensures

pub returns-clause-fits : goal.returns-clause-fits
returns-clause-fits c = fits_in _ _ c.read_table.result
    (found_in _ _ c.read_table.result c.days.ensures.instance.within c.read_table.ensures)

pub returns-clause-spelled : goal.returns-clause-spelled
returns-clause-spelled c = λ t spelled. solution_read _ _ t c.days.ensures.instance.within spelled

pub returns-clause-spells : goal.returns-clause-spells
returns-clause-spells c = λ t read. solution_spelled _ _ t c.days.ensures.instance.within read

pub returns-clause-one : goal.returns-clause-one
returns-clause-one c = λ t u first second. solution_once _ _ t u c.days.ensures.instance.within first second

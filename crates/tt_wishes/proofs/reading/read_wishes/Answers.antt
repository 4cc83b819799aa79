use Rattle.tt_wishes.proofs.RowLaws.{found_in, fits_in, wishes_read, wishes_spelled, wishes_once}
use Rattle.tt_wishes.proofs.reading.read_wishes.Goals as goal

pub returns-clause-found : goal.returns-clause-found
returns-clause-found c = found_in (λ ws. ws.items) _ _ c.read_all.result c.days.ensures.instance.within c.read_all.ensures

pub returns-clause-only : goal.returns-clause-only
returns-clause-only c = λ ws spelled. rw (← wishes_read _ _ ws c.days.ensures.instance.within spelled) c.read_all.ensures

pub returns-clause-spelled : goal.returns-clause-spelled
returns-clause-spelled c = λ ws spelled. wishes_read _ _ ws c.days.ensures.instance.within spelled

pub returns-clause-spells : goal.returns-clause-spells
returns-clause-spells c = λ ws read. wishes_spelled _ _ ws c.days.ensures.instance.within read

pub returns-clause-one : goal.returns-clause-one
returns-clause-one c = λ us ws first second. wishes_once _ _ us ws c.days.ensures.instance.within first second

pub returns-clause-fits : goal.returns-clause-fits
returns-clause-fits c = fits_in (λ ws. ws.items) _ _ c.read_all.result
    (found_in (λ ws. ws.items) _ _ c.read_all.result c.days.ensures.instance.within c.read_all.ensures)

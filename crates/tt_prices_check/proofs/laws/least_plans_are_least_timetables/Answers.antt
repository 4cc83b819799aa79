use Rattle.tt_prices_check.proofs.Timetables.{least_timetable}
use Rattle.tt_prices_check.proofs.laws.least_plans_are_least_timetables.Goals as goal

pub returns : goal.returns
returns c = λ p scale g least there h. least_timetable p scale g there least h

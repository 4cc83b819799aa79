use Rattle.tt_groups.proofs.Built.{built, is_relaxed, built_cost}
use Rattle.tt_groups.proofs.laws.plans_are_relaxed_timetables.Goals as goal

pub returns : goal.returns
returns c = λ p g week plan there. (built p g week plan there, is_relaxed p g week plan there, built_cost p g week plan there)

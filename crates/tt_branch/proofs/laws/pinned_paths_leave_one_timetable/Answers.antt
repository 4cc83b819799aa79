use Rattle.tt_branch.proofs.OneTimetable.{leaves_one}
use Rattle.tt_branch.proofs.laws.pinned_paths_leave_one_timetable.Goals as goal

pub returns : goal.returns
returns c = λ p path ok pins none. leaves_one p path ok pins none

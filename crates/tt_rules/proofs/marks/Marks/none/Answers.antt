use Rattle.std.proofs.Common.{false}
use Rattle.tt_rules.proofs.marks.Marks.none.Goals as goal
use Rattle.tt_list_laws.proofs.Beginnings.{read_default}

pub returns : goal.returns
returns c = λ k. read_default 2048 k false

use Rattle.std.proofs.Common.{false}
use Rattle.tt_leaf_rules.proofs.number_set.NumberSet.none.Goals as goal
use Rattle.tt_list_laws.proofs.Beginnings.{read_default}

pub returns : goal.returns
returns c = λ k. read_default 32768 k false

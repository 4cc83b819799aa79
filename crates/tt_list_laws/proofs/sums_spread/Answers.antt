use Rattle.tt_list_laws.proofs.Sums.{spread_up}
use Rattle.tt_list_laws.proofs.sums_spread.Goals as goal

pub returns : goal.returns
returns c = λ f w xs places h. spread_up f w xs places h

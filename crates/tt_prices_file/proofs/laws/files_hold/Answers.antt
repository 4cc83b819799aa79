use Rattle.tt_prices_file.proofs.Holding.{bound_holds}
use Rattle.tt_prices_file.proofs.laws.files_hold.Goals as goal

pub returns : goal.returns
returns c = λ p h parts right t ok. bound_holds p h parts right t ok

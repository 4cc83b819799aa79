use Rattle.tt_prices_file.proofs.Holding.{one_total}
use Rattle.tt_prices_file.proofs.laws.files_have_one_total.Goals as goal

pub returns : goal.returns
returns c = λ p h parts m n first second. one_total p h parts m n first second

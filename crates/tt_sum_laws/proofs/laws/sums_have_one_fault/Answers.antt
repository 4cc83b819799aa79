use Rattle.tt_sum_laws.proofs.Files.{one_stop}
use Rattle.tt_sum_laws.proofs.laws.sums_have_one_fault.Goals as goal

pub returns : goal.returns
returns c = λ p root files m n f g is h k closed shut. one_stop p root is files m n f g h k closed shut

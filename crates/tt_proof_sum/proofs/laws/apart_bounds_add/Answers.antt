use Rattle.std.proofs.lemmas.List.Elements.{recursion_from_All}
use Rattle.tt_proof_sum.specs.Sums.{ShowsOn}
use Rattle.tt_proof_sum.proofs.Together.{bounds_add}
use Rattle.tt_proof_sum.proofs.laws.apart_bounds_add.Goals as goal

pub returns : goal.returns
returns c = λ p path parts d apart t ok fits. bounds_add p t ok path fits parts (recursion_from_All (ShowsOn p path) parts d) apart

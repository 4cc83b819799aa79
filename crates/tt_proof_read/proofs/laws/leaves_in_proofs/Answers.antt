use Rattle.tt_proof_read.proofs.LeafParts.{leaf_parts, leaf_whole}
use Rattle.tt_proof_read.proofs.laws.leaves_in_proofs.Goals as goal

pub returns : goal.returns
returns c = λ p v leaf. (leaf_parts p v leaf, λ h. leaf_whole p v leaf h.0 h.1 h.2)

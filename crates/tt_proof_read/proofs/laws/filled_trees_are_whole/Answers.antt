use Rattle.tt_proof_read.proofs.Whole.{filled_tree, preorder_fills}
use Rattle.tt_proof_read.proofs.laws.filled_trees_are_whole.Goals as goal

pub returns : goal.returns
returns c = λ nodes. (filled_tree nodes, preorder_fills nodes)

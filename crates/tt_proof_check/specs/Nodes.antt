-- Lists of nodes.
use Rattle.tt_instance.specs.Problem.{Problem}
use Rattle.tt_path.specs.Facts.{IsPattern}
use Rattle.tt_leaf.specs.Ranges.{IsLeafOf}
use Rattle.tt_proof_read.specs.declared.node.Node.{Node}
use Rattle.tt_proof_read.specs.declared.node.Node.TheVariants.{Split, Leaf}

-- whether the numbers of a node are the instance's, and no price is given twice
abbrev pub IsNodeOf : Problem → Node → Type 0
IsNodeOf p (Split g) = IsPattern p g
IsNodeOf p (Leaf leaf) = IsLeafOf p leaf

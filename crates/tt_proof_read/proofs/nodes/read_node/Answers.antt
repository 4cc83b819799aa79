use Rattle.tt_proof_read.specs.Reading.{node_at}
use Rattle.tt_proof_read.proofs.Readings.{reads_then, takes_then, counted_below}
use Rattle.tt_proof_read.proofs.nodes.read_node.Goals as goal

pub returns-clause-read : goal.returns-clause-read
unfolding node_at
returns-clause-read g c =
    let word = rw c.token-2.ensures at c.in_ok-word.ensures.read in
    reads_then _ _ _ _ _ _ _ _ _ c.in_ok-at.ensures.read
    (takes_then _ _ _ _ _ _ _ (counted_below c.in_ok-at.at c.args.count c.if-count-ge-MAX_PROOF_NODES.false)
    (takes_then _ _ _ _ _ _ _ word
    c.read_node_after_word.ensures.read))

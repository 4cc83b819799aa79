use Rattle.std.proofs.Common.{◌≡◌, ◌+◌, drop, sym, ap, ◌∙◌, subst, arith}
use Rattle.std.proofs.lemmas.Bool.{false≢true}
use Rattle.tt_proof_read.specs.Reads.{open_after}
use Rattle.tt_proof_read.specs.Readers.{places_after}
use Rattle.tt_proof_read.specs.declared.node.Node.{Node}
use Rattle.tt_proof_read.proofs.Whole.{open_more, open_over, open_reported}
use Rattle.tt_proof_read.proofs.tree.is_tree.Goals as goal
use Rattle.tt_proof_read.proofs.tree.is_tree.Goals.{in-Split, in-Leaf}

pub returns-then-places-eq0 : goal.returns-then-places-eq0
returns-then-places-eq0 c =
    let nodes = c.args.nodes.now in
    let i = c.loop-node.node-index in
    let so_far = subst (λ n. open_after 1 nodes ≡ open_after n (drop i nodes)) c.if-places-eq0.true c.loop-node.invariant.0 in
    (λ h. absurd (false≢true h), λ whole. absurd (open_over nodes i c.node-item.result c.loop-node-test.true so_far whole))

pub loop-node-preserved : goal.loop-node-preserved
loop-node-preserved c =
    let nodes = c.args.nodes.now in
    let i = c.loop-node.node-index in
    let places = c.loop-node.places in
    let more = open_more nodes i places c.node-item.result c.loop-node-test.true c.node-item.is c.if-places-eq0.false in
    let next = λ (e : c.match-node.places ≡ places_after c.node-item.result places). c.loop-node.invariant.0 ∙ more
    ∙ ap (λ n. open_after n (drop (i + 1) nodes)) (sym e) in
    elim c.match-node.branch [
      | in-Split w ↦ (
        next (w.places-is ∙ ap (λ (x : Node). places_after x places) (sym w.in-Split.is)),
        omega (arith, w.places-is, c.loop-node.invariant.1),
      )
      | in-Leaf w ↦ (
        next (w.places-is ∙ ap (λ (x : Node). places_after x places) (sym w.in-Leaf.is)),
        omega (arith, w.places-is, c.loop-node.invariant.1),
      )
    ]

pub returns : goal.returns
returns c = open_reported c.args.nodes.now c.loop-node.node-index c.loop-node.places (omega arith) c.loop-node.invariant.0

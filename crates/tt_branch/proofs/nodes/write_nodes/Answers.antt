use Rattle.std.proofs.Common.{◌-◌, refl, sym, ap, ◌∙◌, subst, arith}
use Rattle.tt_instance.specs.Problem.{Problem}
use Rattle.tt_proof_check.specs.Nodes.{IsNodeOf}
use Rattle.tt_branch.specs.Inner.Growing.{node_at}
use Rattle.tt_branch.specs.Inner.Written.{IsOnceNode}
use Rattle.tt_branch.proofs.Taking.{writable_here}
use Rattle.tt_branch.proofs.nodes.write_nodes.Goals as goal

pub node_for-requires : goal.node_for-requires
node_for-requires g c = λ κs.
    let p = g.P.Path.problem c.args.path.now in
    let e = c.index-tree_nodes-left.result in
    let w = writable_here p c.args.root.now c.args.links.now c.args.tree_nodes.now (c.loop-left.left - 1) e c.requires.each
    (omega arith) c.index-tree_nodes-left.is in
    ((refl, tt), (c.loop-left.invariant.rooted, (c.requires.links, w.reached)))

pub worth_of-requires : goal.worth_of-requires
worth_of-requires g c = λ κs.
    let p = g.P.Path.problem c.args.path.now in
    let root = c.args.root.now in
    let links = c.args.links.now in
    let e = c.index-tree_nodes-left.result in
    let same = c.in_ok-node.ensures.unchanged ∙ c.loop-left.invariant.same in
    let w = writable_here p root links c.args.tree_nodes.now (c.loop-left.left - 1) e c.requires.each (omega arith)
    c.index-tree_nodes-left.is in
    let node = c.in_ok-node.ensures.node ∙ ap (λ (q : Problem). node_at q root links e) c.loop-left.invariant.same in (
      (refl, tt),
      (
        c.in_ok-node.ensures.rooted,
        (
          c.requires.links,
          (
            w.reached,
            (
              subst (λ (q : Problem). IsNodeOf q c.in_ok-node.node) (sym same) (subst (IsNodeOf p) (sym node) w.numbers),
              subst IsOnceNode (sym node) w.once,
            ),
          ),
        ),
      ),
    )

use Rattle.std.proofs.Common.{◌≡◌, ◌+◌, [], ◌∷◌, ◌++◌, lit<, unwrap_or}
use Rattle.std.specs.Option.{option_to_list}
use Rattle.tt_proof_write.proofs.DepthLaws.{walk_begins, walk_room, walk_split, walk_leaf, walk_too_deep, walk_done}
use Rattle.tt_proof_write.proofs.depth.is_shallow.Goals as goal
use Rattle.tt_proof_write.proofs.depth.is_shallow.Goals.{in-Split+else-depth-eq-MAX_FACTS, in-Leaf}

pub loop-node-init : goal.loop-node-init
loop-node-init c = walk_begins c.args.nodes.now c.new-pending.result.items c.new-pending.ensures

pub returns-then-depth-eq-MAX_FACTS : goal.returns-then-depth-eq-MAX_FACTS
returns-then-depth-eq-MAX_FACTS c = walk_too_deep _ _ _ _ _ _ c.requires c.loop-node.invariant c.loop-node-test.true c.node-item.is
    c.in-Split.is c.if-depth-eq-MAX_FACTS.true

pub push-requires : goal.push-requires
push-requires c = (lit< tt, walk_room _ _ _ c.loop-node.pending.items c.loop-node.invariant c.if-depth-eq-MAX_FACTS.false)

pub loop-node-preserved : goal.loop-node-preserved
loop-node-preserved c =
    elim c.match-node.branch [
      | in-Split+else-depth-eq-MAX_FACTS w ↦
          (let pushed : c.match-node.pending.items ≡ c.loop-node.pending.items ++ (c.loop-node.depth + 1) ∷ [] = cc in
          walk_split _ _ _ _ _ _ _ _ c.loop-node-test.true c.node-item.is w.in-Split.is w.if-depth-eq-MAX_FACTS.false w.depth-is pushed
          c.loop-node.invariant)
      | in-Leaf w ↦
          (let next : c.match-node.depth ≡ unwrap_or w.pop.result 0 = cc in
          let popped : c.loop-node.pending.items ≡ c.match-node.pending.items ++ option_to_list w.pop.result = cc in
          walk_leaf _ _ _ _ _ _ _ _ _ c.loop-node-test.true c.node-item.is w.in-Leaf.is next popped w.pop.ensures.variant
          c.loop-node.invariant)
    ]

pub returns : goal.returns
returns c = walk_done _ _ _ _ c.requires c.loop-node.invariant c.loop-node-test.false

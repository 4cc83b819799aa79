use Rattle.std.proofs.Common.{◌<◌, ◌≤◌, true, length, refl, sym, ◌∙◌, subst, arith}
use Rattle.std.proofs.lemmas.List.Elements.{All-get_or}
use Rattle.tt_proof_check.specs.Inner.Steps.{Stops}
use Rattle.tt_proof_check.specs.Nodes.{IsNodeOf}
use Rattle.tt_proof_check.specs.declared.walk.NodeStop.TheVariants.{Rule, TooDeep}
use Rattle.tt_proof_check.proofs.InOrder.{midway_root, midway_next, midway_fails, midway_deep, midway_end}
use Rattle.tt_proof_check.proofs.Walking.{walked_start, steps_as}
use Rattle.tt_proof_check.proofs.preorder.check_each.Goals as goal

pub loop-i-init : goal.loop-i-init
loop-i-init g c =
    let p = g.P.Path.problem c.args.path.now in
    let root = g.P.Path.facts c.args.path.now in
    let within : length root ≤ 65536 = omega (arith, c.depth-root.ensures.value, c.depth-root.ensures.within) in
    record { walked = (true, walked_start p root c.args.bound within); same_problem = refl }

pub check_node-requires : goal.check_node-requires
check_node-requires g c = λ κs.
    let nodes = c.args.nodes.now in
    let i = c.loop-i.i in
    let inside : i < length nodes = omega arith in
    let p = g.P.Path.problem c.args.path.now in
    let root = g.P.Path.facts c.args.path.now in
    let n = c.index-nodes-i.result in
    let walked = c.loop-i.invariant.walked in
    let long = midway_root p root c.args.bound nodes i (g.P.Path.facts c.loop-i.path) walked in (
      (refl, tt),
      (
        subst (λ q. IsNodeOf q n) (sym c.loop-i.invariant.same_problem)
            (subst (IsNodeOf p) (sym c.index-nodes-i.is) (All-get_or (IsNodeOf p) nodes i n inside c.requires.nodes)),
        (omega (arith, c.depth-root.ensures.value, long), walked.1.within),
      ),
    )

pub returns-in-Err-Rule-clause-fault : goal.returns-in-Err-Rule-clause-fault
returns-in-Err-Rule-clause-fault g c =
    let nodes = c.args.nodes.now in
    let i = c.loop-i.i in
    let inside : i < length nodes = omega arith in
    let path = g.P.Path.facts c.loop-i.path in
    let p = g.P.Path.problem c.args.path.now in
    let root = g.P.Path.facts c.args.path.now in
    let n = c.index-nodes-i.result in
    let e = rw c.in-Err-Rule.field-0-is at c.in-Err-Rule.ensures in
    rw c.in-Err-Rule.field-0-is
    (midway_fails p root c.args.bound nodes c.requires.tree i n inside c.index-nodes-i.is path c.loop-i.invariant.walked c.in-Err-Rule.fault
    (subst (λ q. Stops q c.args.bound path n (Rule c.in-Err-Rule.fault)) c.loop-i.invariant.same_problem e.stops))

pub returns-in-Err-TooDeep-clause-fault : goal.returns-in-Err-TooDeep-clause-fault
returns-in-Err-TooDeep-clause-fault g c =
    let nodes = c.args.nodes.now in
    let i = c.loop-i.i in
    let inside : i < length nodes = omega arith in
    let path = g.P.Path.facts c.loop-i.path in
    let p = g.P.Path.problem c.args.path.now in
    let root = g.P.Path.facts c.args.path.now in
    let n = c.index-nodes-i.result in
    let e = rw c.in-Err-TooDeep.field-0-is at c.in-Err-TooDeep.ensures in
    midway_deep p root c.args.bound nodes c.requires.tree i n inside c.index-nodes-i.is path c.loop-i.invariant.walked
    (subst (λ q. Stops q c.args.bound path n TooDeep) c.loop-i.invariant.same_problem e.stops)

pub loop-i-preserved : goal.loop-i-preserved
loop-i-preserved g c =
    let nodes = c.args.nodes.now in
    let i = c.loop-i.i in
    let inside : i < length nodes = omega arith in
    let path = g.P.Path.facts c.loop-i.path in
    let next = g.P.Path.facts c.check_node.new.path in
    let p = g.P.Path.problem c.args.path.now in
    let root = g.P.Path.facts c.args.path.now in
    let n = c.index-nodes-i.result in
    record {
      walked = midway_next p root c.args.bound nodes c.requires.tree i n inside c.index-nodes-i.is path c.loop-i.invariant.walked next
          (steps_as _ p c.depth-root.result (length root) c.args.bound c.args.bound path n next c.loop-i.invariant.same_problem
          c.depth-root.ensures.value refl c.in-Ok.ensures.steps) c.in-Ok.ensures.within;
      same_problem = c.in-Ok.ensures.unchanged ∙ c.loop-i.invariant.same_problem;
    }

pub returns-clause-derived : goal.returns-clause-derived
returns-clause-derived g c =
    let past : length c.args.nodes.now ≤ c.loop-i.i = omega arith in
    midway_end (g.P.Path.problem c.args.path.now) (g.P.Path.facts c.args.path.now) c.args.bound c.args.nodes.now c.requires.tree
    c.loop-i.i past
    (g.P.Path.facts c.loop-i.path) c.loop-i.invariant.walked

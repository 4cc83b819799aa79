use Rattle.std.proofs.Common.{[], OnOk}
use Rattle.tt_text.specs.Stops.{IfFault}
use Rattle.tt_proof_check.specs.Derives.{Proves}
use Rattle.tt_proof_check.specs.Explains.{Explains}
use Rattle.tt_proof_check.proofs.InOrder.{checked_only, checked_holds}
use Rattle.tt_proof_check.proofs.Roots.{same_root}
use Rattle.tt_proof_check.proofs.preorder.check_nodes.Goals as goal

pub returns-clause-derived : goal.returns-clause-derived
returns-clause-derived c =
    same_root (λ p root. OnOk c.check_each.result (Proves p root c.args.bound c.args.nodes.now)) _ _ _ _
    c.in_ok-path.ensures.problem c.in_ok-path.ensures.facts c.check_each.ensures.derived

pub returns-clause-fault : goal.returns-clause-fault
returns-clause-fault c =
    same_root (λ p root. IfFault c.check_each.result (λ f. Explains p root c.args.bound c.args.nodes.now f)) _ _ _ _
    c.in_ok-path.ensures.problem c.in_ok-path.ensures.facts c.check_each.ensures.fault

pub returns-clause-only : goal.returns-clause-only
returns-clause-only c =
    checked_only c.args.instance.now [] c.args.bound c.args.nodes.now c.check_each.result (returns-clause-fault c)
    c.check_each.ensures.unread

pub returns-clause-holds : goal.returns-clause-holds
returns-clause-holds c =
    checked_holds c.args.instance.now c.args.bound c.args.nodes.now c.check_each.result (returns-clause-derived c)

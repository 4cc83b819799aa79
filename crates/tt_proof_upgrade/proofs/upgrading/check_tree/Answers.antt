use Rattle.tt_proof_upgrade.proofs.Faults.{is_of_node, fault_of_node}
use Rattle.tt_proof_upgrade.proofs.upgrading.check_tree.Goals as goal

pub node_fault-requires : goal.node_fault-requires
node_fault-requires c =
    is_of_node c.args.instance.now c.args.bound c.args.nodes.now c.requires.tree c.requires.at_most c.in-Err-Fault.fault (rw
    c.in-Err-Fault.field-0-is at c.in-Err-Fault.ensures.fault)

pub returns-in-Err-Fault-clause-fault : goal.returns-in-Err-Fault-clause-fault
returns-in-Err-Fault-clause-fault c =
    fault_of_node c.args.instance.now c.args.bound c.args.nodes.now c.in-Err-Fault.fault c.node_fault.result c.node_fault.ensures
    (rw c.in-Err-Fault.field-0-is at c.in-Err-Fault.ensures.fault)

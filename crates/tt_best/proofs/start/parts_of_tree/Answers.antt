use Rattle.tt_best.proofs.start.parts_of_tree.Goals as goal

pub returns-in-Err : goal.returns-in-Err
returns-in-Err c = c.none.ensures c.args.instance.now c.args.root.now

pub returns-in-None : goal.returns-in-None
returns-in-None c = c.none-in-None.ensures c.args.instance.now c.args.root.now

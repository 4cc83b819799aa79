use Rattle.tt_instance.proofs.Flagging.{none_set}
use Rattle.tt_instance.proofs.marks.Marks.new.Goals as goal

pub returns : goal.returns
returns c = none_set c.in_ok-words.words.items c.div_ceil.result c.args.len (c.in_ok-words.ensures.items_if_clones_equal (λ y e. e))

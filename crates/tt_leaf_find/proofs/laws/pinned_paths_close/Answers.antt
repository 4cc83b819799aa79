use Rattle.tt_leaf_find.proofs.Closing.{pinned_closes}
use Rattle.tt_leaf_find.proofs.laws.pinned_paths_close.Goals as goal

pub returns : goal.returns
returns c = λ p path b ok pins holds none. pinned_closes p path pins ok b holds none

use Rattle.tt_path_tables.specs.Inner.First.{AreFull}
use Rattle.tt_path_tables.proofs.first.full_words.Given as goal

abbrev pub invariant-loop-index : goal.invariant-loop-index
invariant-loop-index l = AreFull l.instance l.words.items l.index

use Rattle.tt_search_complete.specs.Inner.Progress.{AreMissing}
use Rattle.tt_search_complete.proofs.missing.count_missing.Given as goal

abbrev pub invariant-loop-course : goal.invariant-loop-course
invariant-loop-course l = AreMissing l.instance l.table l.course l.missing.items

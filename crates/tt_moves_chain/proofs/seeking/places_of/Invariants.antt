use Rattle.std.proofs.Common.{◌≡◌}
use Rattle.std.specs.Prelude.{filter}
use Rattle.tt_list_laws.specs.Words.{range_below}
use Rattle.tt_moves_chain.specs.Marks.{marked}
use Rattle.tt_moves_chain.proofs.seeking.places_of.Given as goal

abbrev pub invariant-loop-i : goal.invariant-loop-i
invariant-loop-i l = l.places.items ≡ filter (marked l.flags) (range_below l.i)

use Rattle.tt_moves_chain.specs.Marks.{marked}
use Rattle.tt_moves_chain.proofs.seeking.places_of.Goals.{then-flags-i+in_ok-push, else-flags-i}
use Rattle.tt_moves_chain.proofs.seeking.places_of.Goals as goal
use Rattle.tt_list_laws.proofs.Below.{filter_more-passing, filter_more-failing}

pub loop-i-preserved : goal.loop-i-preserved
loop-i-preserved c = elim c.if-flags-i.branch [
  | then-flags-i+in_ok-push w ↦
      let more = filter_more-passing (marked c.args.flags.now) c.loop-i.i w.if-flags-i.true in
      let pushed = w.in_ok-push.ensures.items in
      cc
  | else-flags-i w ↦ let same = filter_more-failing (marked c.args.flags.now) c.loop-i.i w.if-flags-i.false in cc
]

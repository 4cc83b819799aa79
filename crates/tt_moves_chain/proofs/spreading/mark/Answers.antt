use Rattle.std.proofs.Common.{true, false, List, ℕ, sym, ◌∙◌, subst}
use Rattle.std.specs.Prelude.{slice_set}
use Rattle.std.proofs.lemmas.List.{get_or_default}
use Rattle.tt_moves_chain.specs.Marks.{IsMarking}
use Rattle.tt_moves_chain.proofs.Marking.{marking-one}
use Rattle.tt_moves_chain.proofs.spreading.mark.Goals as goal

pub returns-in_ok-push-clause-marking : goal.returns-in_ok-push-clause-marking
returns-in_ok-push-clause-marking c =
    let fs = c.args.flags.now.items in
    let ws = c.args.waiting.now.items in
    let at = c.args.at in
    let fresh = get_or_default fs at false c.index.result.now c.requires ∙ sym c.index.ensures ∙ c.if-not-index.true in
    subst (λ (l : List ℕ). IsMarking fs ws (slice_set fs at true) l) (sym c.in_ok-push.ensures.items)
    (marking-one fs ws at c.requires fresh)

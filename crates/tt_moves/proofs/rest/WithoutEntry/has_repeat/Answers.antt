use Rattle.std.proofs.Common.{ap, ◌∙◌}
use Rattle.tt_list_laws.proofs.Sums.{one_if}
use Rattle.tt_moves.proofs.Rests.{repeats_is}
use Rattle.tt_moves.proofs.rest.WithoutEntry.has_repeat.Goals as goal

pub returns : goal.returns
returns c = λ u rest.
    repeats_is c.args.self.now u rest c.args.entry c.of_course-count.result c.one_if.result c.requires.course
    c.of_course-count.ensures.count (c.one_if.ensures ∙ ap one_if c.is_in_period_of.ensures)

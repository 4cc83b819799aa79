use Rattle.std.proofs.Common.{length, ap, ◌∙◌}
use Rattle.std.proofs.lemmas.List.Sums.{length-filter}
use Rattle.tt_instance.specs.Cells.{is_of}
use Rattle.tt_rules.proofs.lectures.entries_of.Goals as goal

pub returns-clause-count : goal.returns-clause-count
returns-clause-count c =
    c.len.ensures ∙ ap length c.of_course.ensures.group ∙ length-filter (is_of c.args.course) c.args.by_course.now.entries

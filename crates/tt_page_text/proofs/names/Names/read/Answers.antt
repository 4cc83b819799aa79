use Rattle.std.proofs.Common.{◌∙◌}
use Rattle.std.specs.Option.{option_copied}
use Rattle.tt_page_text.proofs.Given.{as_labels}
use Rattle.tt_page_text.proofs.names.Names.read.Goals as goal

pub returns-clause-labels : goal.returns-clause-labels
returns-clause-labels c =
    λ days periods labels given.
    (λ i. record { days = c.in_ok-days.ensures i; periods = c.in_ok-periods.ensures i })
    ∙ as_labels days periods (option_copied c.args.day_names) (option_copied c.args.period_names) labels given

-- What the names of days and periods spell that a call is given.
use Rattle.std.specs.Prelude.{Result}
use Rattle.std.specs.Option.{option_copied}
use Rattle.tt_instance.specs.Problem.{Problem}
use Rattle.tt_page_text.specs.Labelled.{Labelled}
use Rattle.tt_page_text.specs.Labels.{labels_of}
use Rattle.tt_page_text.specs.declared.fault.LabelsFault.{LabelsFault}
use Rattle.tt_call_answers.specs.declared.names.PageNames.{PageNames}

-- the labels that the names spell for the instance's days and periods, or why they don't fit
abbrev pub labels_for : Problem → PageNames → Result Labelled LabelsFault
labels_for p names = labels_of p.days p.periods (option_copied names.days) (option_copied names.periods)

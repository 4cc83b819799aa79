-- Names that are given with an instance, and the results of reading them.
use Rattle.std.proofs.Common.{ℕ, List, Option, Some, None}
use Rattle.tt_text.specs.Reading.{FailsUnless}
use Rattle.tt_instance.specs.Problem.{Problem}
use Rattle.tt_instance.specs.Spelling.{Spells}
use Rattle.tt_instance.specs.declared.cell.Cell.{Cell}
use Rattle.tt_page_text.specs.Labels.{is_environmental}
use Rattle.tt_page_text.specs.declared.fault.LabelsFault.{LabelsFault}
use Rattle.tt_page_text.specs.declared.fault.LabelsFault.TheVariants as labels
use Rattle.tt_call_answers.specs.FaultMaps.{fault_from_labels}
use Rattle.tt_call_answers.specs.declared.fault.AppFault.{AppFault}
use Rattle.tt_call_answers.specs.declared.fault.AppFault.TheVariants as fault
use Rattle.tt_call_answers.specs.Names.{labels_for}
use Rattle.tt_call_answers.specs.declared.names.PageNames.{PageNames}
use Rattle.tt_call_searches.specs.Best.{IsBestRefusal}
use Rattle.tt_call_searches.specs.Given.{IsGiven, IsGivenRefusal, SpellsGiven}
use Rattle.tt_call_searches.proofs.Given.{tells_memory}

-- an error of the instance or of a given solution is reported before those of the names
pub before_names : (i : List ℕ) (given : Option (List ℕ)) (names : PageNames) (f : AppFault) → IsGivenRefusal i given f
    → IsBestRefusal i given names f
before_names i None names fault.DayNames h = absurd h
before_names i (Some s) names fault.DayNames h = absurd h
before_names i None names fault.PeriodNames h = absurd h
before_names i (Some s) names fault.PeriodNames h = absurd h
before_names i given names f h = h

-- a timetable that was read is spelled by the given solution
given_spelled : (p : Problem) (given : Option (List ℕ)) (table : Option (List Cell)) → IsGiven p given table → SpellsGiven p given
given_spelled p None None h = tt
given_spelled p None (Some t) h = absurd h
given_spelled p (Some s) None h = absurd h
given_spelled p (Some s) (Some t) h = (t, h)

-- an error of the names is reported
pub names_told : (i : List ℕ) (given : Option (List ℕ)) (p : Problem) (table : Option (List Cell)) (names : PageNames) (f : LabelsFault)
    → Spells i p → IsGiven p given table → FailsUnless is_environmental f (labels_for p names)
    → IsBestRefusal i given names (fault_from_labels f)
names_told i given p table names labels.Days spells is h =
    record { problem = p; spelled = spells; spelled_given = given_spelled p given table is; fails = h }
names_told i given p table names labels.Periods spells is h =
    record { problem = p; spelled = spells; spelled_given = given_spelled p given table is; fails = h }
names_told i given p table names labels.OutOfMemory spells is h = tells_memory i given

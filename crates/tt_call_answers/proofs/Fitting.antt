-- Names that fit an instance.
use Rattle.std.proofs.Common.{◌≡◌, ℕ, List, Ok, refl, subst}
use Rattle.tt_text.specs.Reading.{FailsUnless}
use Rattle.tt_instance.specs.Problem.{Problem}
use Rattle.tt_instance.specs.Spelling.{Spells}
use Rattle.tt_instance_read.proofs.Laws.{spelled_once}
use Rattle.tt_page_text.specs.Labelled.{Labelled}
use Rattle.tt_page_text.specs.Labels.{is_environmental}
use Rattle.tt_page_text.specs.declared.fault.LabelsFault.{LabelsFault}
use Rattle.tt_page_text.specs.declared.fault.LabelsFault.TheVariants as labels
use Rattle.tt_call_answers.specs.FaultMaps.{fault_from_labels}
use Rattle.tt_call_answers.specs.declared.fault.AppFault.TheVariants as fault
use Rattle.tt_call_answers.specs.Names.{labels_for}
use Rattle.tt_call_answers.specs.declared.names.PageNames.{PageNames}

-- if the names fit the instance that the bytes spell, they are refused only for being out of memory
pub names_memory : (i : List ℕ) (p read : Problem) (names : PageNames) (l : Labelled) (f : LabelsFault) → Spells i p → Spells i read
    → labels_for p names ≡ Ok l → FailsUnless is_environmental f (labels_for read names)
    → fault_from_labels f ≡ fault.OutOfMemory
names_memory i p read names l labels.Days spells found named h =
    let here : labels_for read names ≡ Ok l = subst (λ (q : Problem). labels_for q names ≡ Ok l)
    (spelled_once i p read spells found) named in
    absurd cc
names_memory i p read names l labels.Periods spells found named h =
    let here : labels_for read names ≡ Ok l = subst (λ (q : Problem). labels_for q names ≡ Ok l)
    (spelled_once i p read spells found) named in
    absurd cc
names_memory i p read names l labels.OutOfMemory spells found named h = refl

-- The names in the texts that are given are those of the labels that the same texts give.
use Rattle.std.proofs.Common.{◌≡◌, ℕ, Bool, true, false, cond, List, Option, Some, None, Result, Ok, Err, ap}
use Rattle.std.specs.Prelude.{◌==◌, length}
use Rattle.tt_text.specs.Reading.{◌>>=◌}
use Rattle.tt_page_text.specs.Labelled.{Labelled}
use Rattle.tt_page_text.specs.Labels.{labels_of, names_in, names_of}
use Rattle.tt_page_text.specs.declared.fault.LabelsFault.{LabelsFault}
use Rattle.tt_page_text.specs.declared.fault.LabelsFault.TheVariants as fault
use Rattle.tt_page_text.specs.Names.{listed, names_given}

-- a choice that is right is the first of the two
chosen : (b : Bool) (f : LabelsFault) (given names : List (List ℕ)) → cond b (Ok given) (Err f) ≡ Ok names → given ≡ names
chosen true f given names h = cc
chosen false f given names h = absurd cc

listed_as : (f : LabelsFault) (n : ℕ) (text : Option (List ℕ)) (names : List (List ℕ)) → names_of f n text ≡ Ok names → listed text ≡ names
unfolding names_of
listed_as f n None names h = cc
listed_as f n (Some text) names h = chosen (length (names_in text) == n) f (names_in text) names h

-- both steps of the labels gave names
both_read : (days periods : Result (List (List ℕ)) LabelsFault) (labels : Labelled)
    → (days >>= (λ ds. periods >>= (λ ps. Ok (record { days = ds; periods = ps })))) ≡ Ok labels
    → (days ≡ Ok labels.days) × (periods ≡ Ok labels.periods)
both_read (Ok ds) (Ok ps) labels h =
    let same : record { days = ds; periods = ps } ≡ labels = cc in
    (ap (λ (l : Labelled). Ok l.days) same, ap (λ (l : Labelled). Ok l.periods) same)
both_read (Ok ds) (Err f) labels h = absurd cc
both_read (Err f) periods labels h = absurd cc

pub as_labels : (days periods : ℕ) (day_names period_names : Option (List ℕ)) (labels : Labelled)
    → labels_of days periods day_names period_names ≡ Ok labels → names_given day_names period_names ≡ labels
unfolding labels_of
as_labels days periods day_names period_names labels h =
    let read = both_read (names_of fault.Days days day_names) (names_of fault.Periods periods period_names) labels h in
    let ds = listed_as fault.Days days day_names labels.days read.0 in
    let ps = listed_as fault.Periods periods period_names labels.periods read.1 in
    λ i. record { days = ds i; periods = ps i }

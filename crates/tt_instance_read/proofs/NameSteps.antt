-- The tokens of a name, in turn.
use Rattle.std.proofs.Common.{◌≡◌, ℕ, true, false, List, [], ◌∷◌, ◌++◌, Result, Ok, Err, refl, sym, ◌∙◌}
use Rattle.tt_text.specs.Tokens.{Placed}
use Rattle.tt_instance_read.specs.declared.fault.InstanceFault.{InstanceFault}
use Rattle.tt_instance_read.specs.declared.fault.InstanceFault.TheVariants as fault
use Rattle.tt_instance_read.specs.declared.fault.Word.TheVariants as word
use Rattle.tt_instance_read.specs.Words.{word_text}
use Rattle.tt_text.specs.Texts.{is_text}
use Rattle.tt_instance_read.specs.Reading.{name_at}

-- the word that ends the name
pub name_done : (end : ℕ) (before : List (List ℕ)) (ts rest : List Placed) (t : Placed)
    (total : Result (List (List ℕ) × List Placed) InstanceFault) → ts ≡ t ∷ rest
    → is_text (word_text word.Courses) t.text ≡ true → name_at end before ts ≡ total → total ≡ Ok (before, rest)
unfolding name_at
name_done end before ts rest t total first is so_far =
    let step : name_at end before ts ≡ Ok (before, rest) = rw (first, is) refl in
    sym so_far ∙ step

-- another token of the name
pub name_on : (end : ℕ) (before : List (List ℕ)) (ts rest : List Placed) (t : Placed)
    (total : Result (List (List ℕ) × List Placed) InstanceFault) → ts ≡ t ∷ rest
    → is_text (word_text word.Courses) t.text ≡ false → name_at end before ts ≡ total → name_at end (before ++ t.text ∷ []) rest ≡ total
unfolding name_at
name_on end before ts rest t total first other so_far =
    let step : name_at end before ts ≡ name_at end (before ++ t.text ∷ []) rest = rw (first, other) refl in
    sym step ∙ so_far

-- the text ends within the name
pub name_ended : (end : ℕ) (before : List (List ℕ)) (ts : List Placed) (total : Result (List (List ℕ) × List Placed) InstanceFault)
    → ts ≡ []
    → name_at end before ts ≡ total → total ≡ Err (fault.Ended end)
unfolding name_at
name_ended end before ts total none so_far =
    let step : name_at end before ts ≡ Err (fault.Ended end) = rw none refl in
    sym so_far ∙ step

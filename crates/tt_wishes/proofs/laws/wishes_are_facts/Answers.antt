use Rattle.tt_wishes.proofs.KeptLaws.{kept_fits, fits_kept, all_fit, fits_all}
use Rattle.tt_wishes.proofs.laws.wishes_are_facts.Goals as goal

pub returns-clause-one : goal.returns-clause-one
returns-clause-one c = λ p t inside w. (λ kept. kept_fits p t w kept, λ fits. fits_kept p t w inside fits)

pub returns-clause-all : goal.returns-clause-all
returns-clause-all c = λ p t inside ws. (λ none. all_fit p t ws none, λ fits. fits_all p t ws inside fits)

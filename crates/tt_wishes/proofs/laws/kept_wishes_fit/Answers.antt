use Rattle.tt_wishes.proofs.Roots.{root_fits, root_inside}
use Rattle.tt_wishes.proofs.laws.kept_wishes_fit.Goals as goal

pub returns-clause-root : goal.returns-clause-root
returns-clause-root c = λ p t ws none. root_fits p t ws none

pub returns-clause-patterns : goal.returns-clause-patterns
returns-clause-patterns c = λ p ws are. root_inside p ws are

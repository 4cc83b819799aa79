use Rattle.std.proofs.Common.{refl}
use Rattle.std.proofs.lemmas.List.Elements.{All-nil}
use Rattle.tt_path.specs.Facts.{IsPattern}
use Rattle.tt_reason.proofs.find.find_reason.Goals as goal

pub find_leaf-requires : goal.find_leaf-requires
find_leaf-requires c = rw c.in_ok-path.ensures.facts (λ κs. ((refl, tt), All-nil (λ f. IsPattern _ f.pattern)))

pub returns : goal.returns
returns c = rw (c.in_ok-path.ensures.problem, c.in_ok-path.ensures.facts) at c.find_leaf.ensures.closes

-- The relation between the two parts of a path that answers from tables.
use Rattle.std.specs.Prelude.{◌≡◌, List, filter}
use Rattle.tt_path.specs.Inner.Paths.{Facts}
use Rattle.tt_path.specs.declared.facts.Fact.{Fact}

-- The yes-facts, the oldest first.
abbrev pub yes_of : List Fact → List Fact
yes_of facts = filter (λ f. f.holds) facts

-- One part has all facts, the other the yes-facts, of the same instance.
pub record AreHalves (all yes : Facts) : Type 0 where
  pub problem : yes.problem ≡ all.problem
  pub facts : yes.facts ≡ yes_of all.facts

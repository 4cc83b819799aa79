-- The value of a path.
use Rattle.std.specs.Prelude.{List}
use Rattle.tt_instance.specs.Problem.{Problem}
use Rattle.tt_path.specs.declared.facts.Fact.{Fact}

-- Facts about the timetables of an instance, the oldest first.
pub record Facts : Type 0 where
  pub problem : Problem
  pub facts : List Fact

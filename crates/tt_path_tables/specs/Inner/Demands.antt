-- What a yes-fact demands.
use Rattle.std.specs.Prelude.{◌≡◌}
use Rattle.tt_instance.specs.Problem.{Problem}
use Rattle.tt_path.specs.Inner.Nested.{courses_of}
use Rattle.tt_path_tables.specs.declared.demand.Demand.{Demand}

-- The courses are those that the pattern names.
pub record IsDemand (p : Problem) (d : Demand) : Type 0 where
  pub courses : d.courses.now ≡ courses_of p d.pattern.now.who

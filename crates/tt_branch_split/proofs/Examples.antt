-- A split on a small instance, checked by the definitions.
use Rattle.std.proofs.Common.{[], refl, lit≤}
use Rattle.tt_instance.proofs.Examples.{at, gap}
use Rattle.tt_path.specs.declared.facts.Who.TheVariants.{Course}
use Rattle.tt_path.proofs.Examples.{first_day}
use Rattle.tt_branch_split.specs.Choice.{Aims}

-- a in the first period aims at its cell in this period
aims_at_first : Aims gap [] (first_day (Course 0) 0)
aims_at_first = record {
  cell = at 0 0 0 0;
  in_range = record { course = lit≤ tt; room = lit≤ tt; day = lit≤ tt; period = lit≤ tt };
  matched = refl;
  is_free = record { live = refl; free = refl };
}

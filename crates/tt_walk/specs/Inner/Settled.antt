-- Timetables that some step lowers.
use Rattle.std.specs.Prelude.{List}
use Rattle.tt_instance.specs.Problem.{Problem}
use Rattle.tt_instance.specs.declared.cell.Cell.{Cell}
use Rattle.tt_moves.specs.Changes.{IsBelow}
use Rattle.tt_moves.specs.Steps.{CanStep, stepped}
use Rattle.tt_moves.specs.declared.step.Step.{Step}

-- whether some step lowers the pair
abbrev pub CanFall : Problem → List Cell → Type 0
CanFall p t = (s : Step) × CanStep p t s × IsBelow p (stepped t s) t

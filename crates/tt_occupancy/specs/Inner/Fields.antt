-- The invariant of the fields.
use Rattle.tt_occupancy.specs.Inner.Counted.{IsCounted}
use Rattle.tt_occupancy.specs.declared.occupied.Occupied.TheInside.{Inside}

-- The tables and the score in the fields are those of the timetable in the fields, which is one of the instance.
abbrev pub AreFieldsCounted : Inside → Type 0
AreFieldsCounted s = IsCounted s.instance.now s.table s.tables s.score

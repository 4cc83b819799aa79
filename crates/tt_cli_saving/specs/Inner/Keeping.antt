-- What may replace the timetable that a search has stored.
use Rattle.std.specs.Prelude.{◌≡◌, Bool, true, Option, IfSome}
use Rattle.tt_watch.specs.declared.pair.Pair.{Pair}
use Rattle.tt_watch.specs.Inner.Pairs.{IsLowerPair}

-- whether a timetable with this pair may replace the stored one: it is lower, and breaks no hard rule if only such timetables are stored
abbrev pub MayReplace : Bool → Option Pair → Pair → Type 0
MayReplace is_strict kept pair = IfSome kept (IsLowerPair pair) × (is_strict ≡ true → pair.hard ≡ 0)

use Rattle.std.proofs.Common.{◌≡◌, take}
use Rattle.tt_path_pins.specs.Inner.Tables.{is_day_of, Adds}
use Rattle.tt_path_pins.proofs.pinning.pin_each.Given as goal

abbrev pub invariant-loop-curriculum : goal.invariant-loop-curriculum
invariant-loop-curriculum l = record {
  adds : Adds l.initial.table.words (is_day_of l.instance (take l.curriculum-index l.curricula) l.day) l.period l.table.words;
  same : l.table.earlier ≡ l.initial.table.earlier;
}

-- What a page says is proved.
use Rattle.std.specs.Prelude.{ℕ, List, [], length, ⊤}
use Rattle.tt_instance.specs.Problem.{Problem}
use Rattle.tt_changes.specs.Lists.{ChangesInRange}
use Rattle.tt_leaf.specs.Ranges.{AreBelow}
use Rattle.tt_leaf.specs.declared.leaf.Bound.{Bound}
use Rattle.tt_leaf.specs.declared.leaf.Bound.TheVariants as bound
use Rattle.tt_page.specs.declared.proved.Proved.{Proved}
use Rattle.tt_page.specs.declared.sheet.Shown.{Shown}
use Rattle.tt_page.specs.declared.sheet.Shown.TheVariants.{Whole, Changed, Only}
use Rattle.tt_page.specs.declared.proved.Proved.TheVariants.{AtLeast, Infeasible, Clique, Slots, KeptAtLeast, NoneKept}

-- The courses that are named are the instance's.
abbrev pub IsProvedOf : Problem → Proved → Type 0
IsProvedOf p (Clique cs) = AreBelow (length p.courses) cs
IsProvedOf p (Slots cs) = AreBelow (length p.courses) cs
IsProvedOf p _ = ⊤

-- If proved facts are shown, the courses that are named are the instance's; if changes are shown, they are in its range.
abbrev pub IsShownOf : Problem → Shown → Type 0
IsShownOf p (Whole proved) = IsProvedOf p proved.now
IsShownOf p (Changed proved moves) = IsProvedOf p proved.now × ChangesInRange p moves.changes.now
IsShownOf p (Only sheet) = ⊤

-- What a bound says.
abbrev pub proved_of : Bound → Proved
proved_of (bound.AtLeast b) = AtLeast b
proved_of bound.Nothing = Infeasible

-- What a bound of the timetables that keep wishes says.
abbrev pub kept_of : Bound → Proved
kept_of (bound.AtLeast b) = KeptAtLeast b
kept_of bound.Nothing = NoneKept

-- The courses for which every timetable breaks a hard rule, if a proof names them.
abbrev pub courses_of : Proved → List ℕ
courses_of (Clique cs) = cs
courses_of (Slots cs) = cs
courses_of _ = []

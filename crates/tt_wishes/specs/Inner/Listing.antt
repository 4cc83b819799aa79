-- The facts of a wish, room by room.
use Rattle.std.specs.Prelude.{ℕ, List, [], ◌∷◌, if◌then◌else◌}
use Rattle.tt_list_laws.specs.Words.{has_number}
use Rattle.tt_path.specs.declared.facts.Fact.{Fact}
use Rattle.tt_wishes.specs.Facts.{pattern_in, no_entry}

-- The fact that no entry of the course is in the room, unless the room is listed.
abbrev pub facts_of_room : ℕ → List ℕ → ℕ → List Fact
facts_of_room c rooms r = if has_number rooms r then [] else no_entry (pattern_in c r) ∷ []

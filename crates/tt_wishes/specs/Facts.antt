-- The facts that a wish is: patterns of cells, of which some entry matches each, or none does.
use Rattle.std.specs.Prelude.{ℕ, true, false, not, List, [], ◌∷◌, Some, None, map, flat_map, filter, take}
use Rattle.tt_list_laws.specs.Words.{has_number}
use Rattle.tt_instance.specs.Problem.{Problem}
use Rattle.tt_instance.specs.Cells.{all_courses, all_rooms}
use Rattle.tt_path.specs.declared.facts.Who.TheVariants.{Course}
use Rattle.tt_path.specs.declared.facts.Pattern.{Pattern}
use Rattle.tt_path.specs.declared.facts.Fact.{Fact}
use Rattle.tt_wishes.specs.declared.format.TheConstants.{MAX_ROOT}
use Rattle.tt_wishes.specs.declared.wish.Place.{Place}
use Rattle.tt_wishes.specs.declared.wish.Wish.{Wish}
use Rattle.tt_wishes.specs.declared.wish.Wish.TheVariants.{Hold, Rooms, Closed}

-- The cells of the course at the place.
abbrev pub pattern_at : Place → ℕ → Pattern
pattern_at g c = record { who = Course c; room = g.room; day = g.day; period = g.period }

-- The cells of the course in the room, at any time.
abbrev pub pattern_in : ℕ → ℕ → Pattern
pattern_in c r = record { who = Course c; room = Some r; day = None; period = None }

-- Some entry matches the pattern.
abbrev pub some_entry : Pattern → Fact
some_entry g = record { pattern = g; holds = true }

-- No entry matches the pattern.
abbrev pub no_entry : Pattern → Fact
no_entry g = record { pattern = g; holds = false }

-- The facts of a wish: that the course has an entry there; that it has none in any other room; that no course has one there.
abbrev pub facts_of : Problem → Wish → List Fact
facts_of p (Hold c g) = some_entry (pattern_at g c) ∷ []
facts_of p (Rooms c rooms) = map (λ r. no_entry (pattern_in c r)) (filter (λ r. not (has_number rooms r)) (all_rooms p))
facts_of p (Closed g) = map (λ c. no_entry (pattern_at g c)) (all_courses p)

-- The facts of all wishes, in their order.
abbrev pub facts_of_all : Problem → List Wish → List Fact
facts_of_all p ws = flat_map (facts_of p) ws

-- The facts that wishes put at the root of a tree: those of all wishes, or the first 32,768 of them.
abbrev pub root_of : Problem → List Wish → List Fact
root_of p ws = take MAX_ROOT (facts_of_all p ws)

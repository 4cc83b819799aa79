-- Timetables that are better than another one, if each lecture that left its place in an older one has a price.
use Rattle.std.specs.Prelude.{◌≡◌, ℕ, ◌+◌, ◌*◌, ◌<◌, ◌⊎◌, List, [], ◌∷◌, codes}
use Rattle.tt_text.specs.Pieces.{Piece, Text, Number}
use Rattle.tt_instance.specs.Problem.{Problem}
use Rattle.tt_instance.specs.declared.cell.Cell.{Cell}
use Rattle.tt_rules.specs.Score.{hard, cost}
use Rattle.tt_changes.specs.Counts.{moved_count, rooms_count}
use Rattle.tt_stay.specs.Rearranged.{IsRearranged}
use Rattle.tt_stay.specs.declared.stay.Stay.{Stay}
use Rattle.tt_stay.specs.declared.staying.Near.{Near}
use Rattle.tt_stay.specs.declared.weight.Weight.{Weight}

-- The cost and the prices of this many lectures that left their period, and of those that only left their room.
abbrev pub total : Stay → ℕ → ℕ → ℕ → ℕ
total s cost moved rooms = cost + s.period * moved + s.room * rooms

-- The weight of a timetable: what it breaks and costs, and how many lectures left their places in the older one.
pub record IsWeight (p : Problem) (old t : List Cell) (w : Weight) : Type 0 where
  pub hard_is : w.hard ≡ hard p t
  pub cost_is : w.cost ≡ cost p t
  pub moved_is : w.moved ≡ moved_count p old t
  pub rooms_is : w.rooms ≡ rooms_count p old t

-- Fewer hard rules are broken, or equally many at a lower total.
abbrev pub IsLower : Stay → Weight → Weight → Type 0
IsLower s v w = (v.hard < w.hard) ⊎ ((v.hard ≡ w.hard) × (total s v.cost v.moved v.rooms < total s w.cost w.moved w.rooms))

-- A timetable with its weight: its entries are those of the timetable from which the search started, and that one has no lower weight.
pub record IsNear (p : Problem) (old start : List Cell) (s : Stay) (n : Near) : Type 0 where
  pub entries : IsRearranged p start n.table
  pub weight : IsWeight p old n.table n.weight
  pub no_worse : (first : Weight) → IsWeight p old start first → IsLower s first n.weight → ⊥

-- The line of a weight: its counts, each after its name.
abbrev pub weight_line : Weight → List Piece
weight_line w =
    Text (codes "hard") ∷ Number w.hard ∷ Text (codes "cost") ∷ Number w.cost
    ∷ Text (codes "moved") ∷ Number w.moved ∷ Text (codes "rooms") ∷ Number w.rooms ∷ []

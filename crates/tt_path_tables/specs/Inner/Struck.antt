-- The cells that a yes-fact takes from the courses in one period, from the table of the cells that are not barred. These are steps of
-- the code.
use Rattle.std.specs.Prelude.{ℕ, ◌==◌, nat_lt, Bool, not, ◌&&◌, ◌||◌, List, length}
use Rattle.std.specs.List.{list_all, list_any}
use Rattle.tt_list_laws.specs.Words.{has_number}
use Rattle.tt_instance.specs.Problem.{Problem}
use Rattle.tt_instance.specs.Cells.{all_rooms}
use Rattle.tt_instance.specs.Courses.{conflict}
use Rattle.tt_instance.specs.declared.cell.Cell.{Cell}
use Rattle.tt_path.specs.declared.facts.Pattern.{Pattern}
use Rattle.tt_path_tables.specs.Inner.Tables.{is_open}

-- The course has a free room in the period that the pattern allows.
abbrev pub is_left_to : Problem → List ℕ → Pattern → ℕ → ℕ → ℕ → Bool
is_left_to p free g d s k = nat_lt k (length p.courses) && list_any (is_open p free g.room k d s) (all_rooms p)

-- One of the courses has a free room in the period that the pattern allows.
abbrev pub is_left : Problem → List ℕ → Pattern → ℕ → ℕ → List ℕ → Bool
is_left p free g d s ks = list_any (is_left_to p free g d s) ks

-- Each free room of course k excludes course c, another one, from room r.
abbrev pub is_lost_to : Problem → List ℕ → Pattern → ℕ → ℕ → ℕ → ℕ → ℕ → Bool
is_lost_to p free g d s c r k =
    not (nat_lt k (length p.courses)) || conflict p k c || list_all (λ i. not (is_open p free g.room k d s i) || (i == r)) (all_rooms p)

-- One of the courses ks must have a free room of its own: course c loses room r.
abbrev pub loses_room : Problem → List ℕ → Pattern → ℕ → ℕ → List ℕ → ℕ → ℕ → Bool
loses_room p free g d s ks c r =
    (has_number ks c && not (is_open p free g.room c d s r)) || (not (has_number ks c) && list_all (is_lost_to p free g d s c r) ks)

-- The cells that a fact takes from the courses in one period.
abbrev pub is_struck : Problem → List ℕ → Pattern → ℕ → ℕ → List ℕ → Cell → Bool
is_struck p free g d s ks x = (x.day == d) && (x.period == s) && loses_room p free g d s ks x.course x.room

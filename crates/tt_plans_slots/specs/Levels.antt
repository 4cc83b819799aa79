-- The levels of courses.
use Rattle.std.specs.Prelude.{ℕ, ◌-◌, Bool, nat_le, count_by}
use Rattle.std.specs.List.{list_all}
use Rattle.tt_instance.specs.Problem.{Problem}
use Rattle.tt_instance.specs.Cells.{all_rooms}
use Rattle.tt_instance.specs.Courses.{excess}

-- No room misses fewer seats for the course than this one.
abbrev pub misses_fewest : Problem → ℕ → ℕ → Bool
misses_fewest p c r = list_all (λ q. nat_le (excess p c r) (excess p c q)) (all_rooms p)

-- The number of rooms that miss the fewest seats for the course, less 1.
unfoldable pub level : Problem → ℕ → ℕ
level p c = count_by (misses_fewest p c) (all_rooms p) - 1

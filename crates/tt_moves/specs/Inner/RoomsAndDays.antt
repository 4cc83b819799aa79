-- The cost without that of isolated entries.
use Rattle.std.specs.Prelude.{ℕ, ◌+◌, List, ◌∷◌}
use Rattle.tt_instance.specs.Problem.{Problem}
use Rattle.tt_instance.specs.Courses.{excess}
use Rattle.tt_instance.specs.declared.cell.Cell.{Cell}
use Rattle.tt_rules.specs.Soft.{capacity_count, days_cost, days_count, stability_cost, stability_count}

-- the cost of the rooms and days of a timetable
abbrev pub room_and_day_cost : Problem → List Cell → ℕ
room_and_day_cost p t = capacity_count p t + days_count p t + stability_count p t

-- the part of it that the course of an entry x and its place cost, next to the entries u
abbrev pub room_and_day_rise : Problem → List Cell → Cell → ℕ
room_and_day_rise p u x = excess p x.course x.room + days_cost p (x ∷ u) x.course + stability_cost p (x ∷ u) x.course

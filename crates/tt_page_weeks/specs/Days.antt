-- The days of a page: a table for each, with a row for each room and a column for each period.
use Rattle.std.specs.Prelude.{ℕ, Bool, List, [], ◌∷◌, ◌++◌, flat_map, codes}
use Rattle.tt_list_laws.specs.Words.{range_below}
use Rattle.tt_text.specs.Pieces.{Text, Number}
use Rattle.tt_instance.specs.Problem.{Problem}
use Rattle.tt_instance.specs.Cells.{all_days}
use Rattle.tt_instance.specs.declared.cell.Cell.{Cell}
use Rattle.tt_page_text.specs.Markup.{markup}
use Rattle.tt_page_text.specs.Labelled.{Labelled}
use Rattle.tt_page_text.specs.Labels.{day_text, period_text}
use Rattle.tt_page_text.specs.Orders.{numbers_of}
use Rattle.tt_table.specs.declared.kind.Kind.TheVariants.{Room}
use Rattle.tt_page_weeks.specs.Lectures.{lecture_text, week_text}
use Rattle.tt_page_weeks.specs.Grids.{entries_at, paper_name}

-- ---- a day

-- The lectures in a room in a period of a day, as in the room's week, with links or without.
unfoldable pub room_cell : Problem → List Cell → Labelled → Bool → ℕ → ℕ → ℕ → List ℕ
room_cell p t labels linked d r s = codes "<td>\n" ++ flat_map (lecture_text p t labels linked Room r) (entries_at p t Room r d s) ++ codes "</td>\n"

-- The beginning of a room's row: the room, as a link to its week if there are links.
unfoldable pub room_row_head : Problem → Bool → ℕ → List ℕ
room_row_head p linked r = codes "<tr>\n<th scope=\"row\">" ++ week_text p linked Room r ++ codes "</th>\n"

-- The row of a room in the table of a day: its cell for each period.
unfoldable pub room_row : Problem → List Cell → Labelled → Bool → ℕ → ℕ → List ℕ
room_row p t labels linked d r = room_row_head p linked r ++ flat_map (room_cell p t labels linked d r) (range_below p.periods) ++ codes "</tr>\n"

-- The beginning of a day's grid, up to the name of the day.
unfoldable pub day_grid_head : ℕ → List ℕ
day_grid_head d = markup (
    Text (codes "<div class=\"grid day\" id=\"day") ∷ Number d ∷ Text (codes "\">\n<h3 id=\"day") ∷ Number d ∷ Text (codes "-name\"><b>") ∷ [])

-- The beginning of a day's table, with the head of the column of rooms.
unfoldable pub day_table_head : ℕ → List ℕ
day_table_head d = markup (
    Text (codes "<table aria-labelledby=\"day") ∷ Number d ∷ Text (codes "-name\">\n<thead>\n<tr>\n<th scope=\"col\">Room</th>\n") ∷ [])

-- The beginning of a day's grid: its heading, with the names of the day and of the instance, and the beginning of its table.
unfoldable pub day_title : Problem → Labelled → ℕ → List ℕ
day_title p labels d = day_grid_head d ++ day_text labels d ++ codes "</b>" ++ paper_name p ++ day_table_head d

-- The head of a period's column.
unfoldable pub period_head : Labelled → ℕ → List ℕ
period_head labels s = codes "<th scope=\"col\">" ++ period_text labels s ++ codes "</th>\n"

-- The table of a day: a row for each room, in the order of their names.
unfoldable pub day_grid : Problem → List Cell → Labelled → Bool → ℕ → List ℕ
day_grid p t labels linked d =
    day_title p labels d ++ flat_map (period_head labels) (range_below p.periods)
    ++ codes "</tr>\n</thead>\n<tbody>\n" ++ flat_map (room_row p t labels linked d) (numbers_of p Room) ++ codes "</tbody>\n</table>\n</div>\n"

-- ---- the section

-- The beginning of the link to the grid of a day, in the section's index.
unfoldable pub day_link_head : ℕ → List ℕ
day_link_head d = markup (Text (codes "<li><a href=\"#day") ∷ Number d ∷ Text (codes "\">") ∷ [])

-- A line of the section's index.
unfoldable pub day_index_item : Labelled → ℕ → List ℕ
day_index_item labels d = day_link_head d ++ day_text labels d ++ codes "</a></li>\n"

-- The head of the section of days, with their number.
unfoldable pub days_head : ℕ → List ℕ
days_head n = markup (
    Text (codes "<details open id=\"daily\">\n<summary><h2>Days <small>") ∷ Number n ∷ Text (codes "</small></h2></summary>\n<ul class=\"index\">\n") ∷ [])

-- The section of days: its index, and the grid of each day.
unfoldable pub days_text : Problem → List Cell → Labelled → Bool → List ℕ
days_text p t labels linked =
    days_head p.days ++ flat_map (day_index_item labels) (all_days p) ++ codes "</ul>\n<div class=\"grids\">\n"
    ++ flat_map (day_grid p t labels linked) (all_days p) ++ codes "</div>\n</details>\n"

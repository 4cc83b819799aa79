-- The two tables of counts, and a list for each count above 0.
use Rattle.std.specs.Prelude.{ℕ, ◌==◌, List, [], ◌∷◌, ◌++◌, codes, if◌then◌else◌}
use Rattle.tt_text.specs.Pieces.{Text, Number}
use Rattle.tt_instance.specs.Problem.{Problem}
use Rattle.tt_instance.specs.declared.cell.Cell.{Cell}
use Rattle.tt_rules.specs.Score.{hard, cost}
use Rattle.tt_page_text.specs.Labelled.{Labelled}
use Rattle.tt_page_text.specs.Markup.{markup}
use Rattle.tt_page_lists.specs.Rules.{rule_count, is_hard, rule_word, rule_title, rule_meaning}
use Rattle.tt_page_lists.specs.Grouped.{items_text}
use Rattle.tt_page_lists.specs.Reasons.{reason_text}
use Rattle.tt_page_lists.specs.declared.rule.Rule.{Rule}
use Rattle.tt_page_lists.specs.declared.rule.Rule.TheVariants as rule

-- ---- tables

-- A row of a count of 0 has a class of its own, which the style hides.
abbrev pub row_begin : ℕ → List ℕ
row_begin n = if n == 0 then codes "<tr class=\"none\"><th scope=\"row\">" else codes "<tr><th scope=\"row\">"

-- The row of a count: its title, its number and its meaning.
unfoldable pub count_row : List ℕ → ℕ → List ℕ → List ℕ
count_row title n meaning = markup (
    Text (row_begin n) ∷ Text title ∷ Text (codes "</th><td>") ∷ Number n ∷ Text (codes "</td><td>") ∷ Text meaning ∷ Text (codes "</td></tr>\n") ∷ [])

-- The row of a total.
unfoldable pub total_row : List ℕ → ℕ → List ℕ → List ℕ
total_row title n meaning = markup (
    Text (codes "<tr><th scope=\"row\">") ∷ Text title ∷ Text (codes "</th><td>") ∷ Number n ∷ Text (codes "</td><td>") ∷ Text meaning ∷ Text (codes "</td></tr>\n") ∷ [])

-- The row of a rule, with its count for the timetable.
unfoldable pub rule_row : Problem → List Cell → Rule → List ℕ
rule_row p t r = count_row (rule_title r) (rule_count p t r) (rule_meaning r)

-- The end of the rows of a table, and the beginning of its foot.
unfoldable pub table_foot : List ℕ
table_foot = codes "</tbody>\n<tfoot>\n"

-- The end of a table and of its foot.
unfoldable pub table_end : List ℕ
table_end = codes "</tfoot>\n</table>\n"

-- The beginning of the table of hard rules.
unfoldable pub hard_head : List ℕ
hard_head = codes "<table class=\"counts\" id=\"hard\">\n<caption>Hard rules</caption>\n<tbody>\n"

-- The table of hard rules: a row for each, and their total.
unfoldable pub hard_table : Problem → List Cell → List ℕ
hard_table p t =
    hard_head ++ rule_row p t rule.Lectures ++ rule_row p t rule.Conflicts ++ rule_row p t rule.Availability ++ rule_row p t rule.RoomOccupancy
    ++ table_foot ++ total_row (codes "Hard") (hard p t) (codes "0 in a feasible timetable") ++ table_end

-- The beginning of the table of costs.
unfoldable pub cost_head : List ℕ
cost_head = codes "<table class=\"counts\" id=\"cost\">\n<caption>Costs</caption>\n<tbody>\n"

-- The table of costs: a row for each soft rule, and their total.
unfoldable pub cost_table : Problem → List Cell → List ℕ
cost_table p t =
    cost_head ++ rule_row p t rule.RoomCapacity ++ rule_row p t rule.WorkingDays ++ rule_row p t rule.Compactness ++ rule_row p t rule.RoomStability
    ++ table_foot ++ total_row (codes "Cost") (cost p t) (codes "less is better") ++ table_end

-- ---- lists

-- The head of the list of a hard rule, with its count.
unfoldable pub broken_head : Rule → ℕ → List ℕ
broken_head r n = markup (
    Text (codes "<details open class=\"broken\" id=\"") ∷ Text (rule_word r) ∷ Text (codes "\">\n<summary><h2>") ∷ Text (rule_title r)
    ∷ Text (codes " <strong>") ∷ Number n ∷ Text (codes "</strong></h2></summary>\n") ∷ [])

-- The head of the list of a soft rule, with its count.
unfoldable pub costs_head : Rule → ℕ → List ℕ
costs_head r n = markup (
    Text (codes "<details open class=\"costs\" id=\"") ∷ Text (rule_word r) ∷ Text (codes "\">\n<summary><h2>") ∷ Text (rule_title r)
    ∷ Text (codes " <mark>") ∷ Number n ∷ Text (codes "</mark></h2></summary>\n") ∷ [])

-- The head of the list of a hard rule or of a soft rule, with its count.
unfoldable pub list_head : Rule → ℕ → List ℕ
list_head r n = if is_hard r then broken_head r n else costs_head r n

-- The list of a rule, if its count is not 0; a hard rule's names the courses for which every timetable breaks one.
unfoldable pub list_text : Problem → List Cell → Labelled → List ℕ → Rule → List ℕ
list_text p t labels cs r =
    if rule_count p t r == 0 then []
    else list_head r (rule_count p t r) ++ reason_text p cs r ++ codes "<ul>\n" ++ items_text p t labels r ++ codes "</ul>\n</details>\n"

-- The lists of all rules whose counts are not 0, the hard rules first, with the courses for which every timetable breaks a hard rule.
unfoldable pub lists_text : Problem → List Cell → Labelled → List ℕ → List ℕ
lists_text p t labels cs =
    list_text p t labels cs rule.Lectures ++ list_text p t labels cs rule.Conflicts ++ list_text p t labels cs rule.Availability
    ++ list_text p t labels cs rule.RoomOccupancy ++ list_text p t labels cs rule.RoomCapacity ++ list_text p t labels cs rule.WorkingDays
    ++ list_text p t labels cs rule.Compactness ++ list_text p t labels cs rule.RoomStability

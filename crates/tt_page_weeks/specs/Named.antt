-- The weeks of the room, the teacher and the curriculum that have a name.
use Rattle.std.specs.Prelude.{ℕ, Bool, ◌||◌, List, [], ◌++◌, flat_map, codes, if◌then◌else◌}
use Rattle.std.specs.List.{list_any}
use Rattle.tt_list_laws.specs.Words.{range_below}
use Rattle.tt_text.specs.Texts.{is_text}
use Rattle.tt_instance.specs.Problem.{Problem}
use Rattle.tt_instance.specs.declared.cell.Cell.{Cell}
use Rattle.tt_page_text.specs.Labelled.{Labelled}
use Rattle.tt_page_text.specs.Orders.{numbers_of}
use Rattle.tt_page_weeks.specs.Grids.{grid_text}
use Rattle.tt_table.specs.Kinds.{count_of, name_of}
use Rattle.tt_table.specs.declared.kind.Kind.{Kind}
use Rattle.tt_table.specs.declared.kind.Kind.TheVariants.{Room, Teacher, Curriculum}

-- Whether a room, a teacher or a curriculum has the name.
abbrev pub has_named : Problem → List ℕ → Kind → Bool
has_named p name kind = list_any (λ n. is_text (name_of p kind n) name) (range_below (count_of p kind))

-- Whether there is a week of this name.
abbrev pub has_week : Problem → List ℕ → Bool
has_week p name = has_named p name Room || has_named p name Teacher || has_named p name Curriculum

-- The grid of a week, if it has the name.
unfoldable pub named_grid : Problem → List Cell → Labelled → Bool → List ℕ → Kind → ℕ → List ℕ
named_grid p t labels linked name kind n = if is_text (name_of p kind n) name then grid_text p t labels linked kind n else []

-- The grids of those weeks of a kind that have the name.
abbrev pub named_grids : Problem → List Cell → Labelled → Bool → List ℕ → Kind → List ℕ
named_grids p t labels linked name kind = flat_map (named_grid p t labels linked name kind) (numbers_of p kind)

-- The grids of the weeks of this name: those of a room, of a teacher and of a curriculum may be there together.
unfoldable pub named_text : Problem → List Cell → Labelled → Bool → List ℕ → List ℕ
named_text p t labels linked name =
    codes "<div class=\"grids\">\n"
    ++ named_grids p t labels linked name Room ++ named_grids p t labels linked name Teacher ++ named_grids p t labels linked name Curriculum
    ++ codes "</div>\n"

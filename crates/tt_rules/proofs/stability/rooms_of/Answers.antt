use Rattle.std.proofs.Common.{All, count_by, sym, ap, ◌∙◌, subst}
use Rattle.std.specs.List.{list_any}
use Rattle.std.proofs.lemmas.List.Elements.{All-filter}
use Rattle.tt_list_laws.proofs.Filters.{distinct_filtered}
use Rattle.tt_instance.specs.Cells.{InRange, is_of, is_in, all_rooms}
use Rattle.tt_rules.proofs.stability.rooms_of.Goals as goal

pub rooms-requires : goal.rooms-requires
rooms-requires c =
    subst (All (InRange c.args.instance.now)) (sym c.of_course.ensures.group)
    (All-filter (is_of c.args.course) (InRange c.args.instance.now) c.args.by_course.now.entries c.requires.in_range)

pub returns-clause-count : goal.returns-clause-count
returns-clause-count c =
    c.rooms.ensures.count ∙ ap (λ group. count_by (λ x. list_any (is_in x) group) (all_rooms c.args.instance.now)) c.of_course.ensures.group
    ∙ distinct_filtered (is_of c.args.course) is_in c.args.by_course.now.entries (all_rooms c.args.instance.now)

use Rattle.std.proofs.Common.{All, count_by, sym, ap, ◌∙◌, subst}
use Rattle.std.specs.List.{list_any}
use Rattle.std.proofs.lemmas.List.Elements.{All-filter}
use Rattle.tt_list_laws.proofs.Filters.{distinct_filtered}
use Rattle.tt_instance.specs.Cells.{InRange, is_in, is_at, all_slots}
use Rattle.tt_rules.proofs.occupancy.periods_of.Goals as goal

pub periods-requires : goal.periods-requires
periods-requires c =
    subst (All (InRange c.args.instance.now)) (sym c.in_room.ensures.group)
    (All-filter (is_in c.args.room) (InRange c.args.instance.now) c.args.by_room.now.entries c.requires.in_range)

pub returns : goal.returns
returns c =
    c.periods.ensures.count ∙ ap (λ group. count_by (λ x. list_any (is_at x) group) (all_slots c.args.instance.now)) c.in_room.ensures.group
    ∙ distinct_filtered (is_in c.args.room) is_at c.args.by_room.now.entries (all_slots c.args.instance.now)

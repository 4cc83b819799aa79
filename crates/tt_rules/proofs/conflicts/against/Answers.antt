use Rattle.std.proofs.Common.{◌≡◌, ◌+◌, drop, count_by, ap, ◌∙◌, subst}
use Rattle.std.specs.Prelude.{filter, IfSome}
use Rattle.tt_instance.specs.Courses.{conflict}
use Rattle.tt_table.specs.Groups.{in_group, group_of}
use Rattle.std.proofs.lemmas.Option.{get_or_from_slice_get, slice_get_within}
use Rattle.std.proofs.lemmas.List.Elements.{All-drop}
use Rattle.tt_instance.specs.Cells.{InRange}
use Rattle.tt_table.specs.declared.groups.GroupBy.TheVariants.{Period}
use Rattle.tt_rules.proofs.Pairs.{collide_behind}
use Rattle.tt_rules.proofs.conflicts.against.Goals as goal

pub returns-clause-count : goal.returns-clause-count
returns-clause-count c =
    let p = c.args.instance.now in
    let e = c.args.entry.now in
    let later = drop (c.args.index + 1) c.args.by_period.now.entries in
    let t = c.args.by_period.now.entries in
    let here : InRange p e = subst (InRange p) (get_or_from_slice_get t c.args.index e e c.requires.there)
    (c.requires.in_range c.args.index e (slice_get_within t c.args.index e c.requires.there)) in
    let behind : c.after.result ≡ filter (in_group (Period p.periods) (group_of (Period p.periods) e)) later =
    subst (λ by. c.after.result ≡ filter (in_group by (group_of by e)) later) c.requires.by
    (subst (λ o. IfSome o (λ x. c.after.result ≡ filter (in_group c.args.by_period.now.by (group_of c.args.by_period.now.by x)) later))
    c.requires.there c.after.ensures.group) in
    c.excluded.ensures.count ∙ ap (count_by (λ other. conflict p e.course other.course)) behind
    ∙ collide_behind p e later here (All-drop (InRange p) (c.args.index + 1) t c.requires.in_range)

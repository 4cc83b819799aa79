use Rattle.std.proofs.Common.{◌≤◌, not, ap, ◌∙◌, arith}
use Rattle.std.specs.List.{list_any}
use Rattle.tt_bits.specs.Inner.Bits.{has_bit, bits}
use Rattle.tt_bits.proofs.Counts.{any-set}
use Rattle.tt_instance.specs.Cells.{slot}
use Rattle.tt_path.specs.Live.{pinned}
use Rattle.tt_path.specs.declared.facts.Who.TheVariants.{Course}
use Rattle.tt_leaf_rules.proofs.days.is_pinned_day.Goals as goal
use Rattle.tt_list_laws.proofs.Truth.{not-not}

pub returns : goal.returns
returns g c =
    let p = g.P.Path.problem c.args.path.now in
    let at_most : p.periods ≤ 64 =
    omega (arith, c.periods.ensures.value, c.periods.ensures.within, ap (λ q. q.periods) c.instance.ensures) in
    ap not c.is_empty.ensures ∙ not-not (list_any (has_bit c.pinned_periods.result) bits)
    ∙ any-set c.pinned_periods.result p.periods (λ s. pinned p (g.P.Path.facts c.args.path.now) (Course c.args.course)
    (slot c.args.day s)) at_most c.pinned_periods.ensures

use Rattle.std.proofs.Common.{◌≡◌, ◌<◌, ◌≤◌, length, refl, sym, ap, ◌∙◌, subst, arith}
use Rattle.std.specs.Prelude.{All}
use Rattle.tt_instance.specs.Courses.{members}
use Rattle.tt_instance.specs.Limits.{IsInstance}
use Rattle.tt_instance.proofs.Limits.{members_below}
use Rattle.tt_leaf_rules.proofs.Alone.{all-isolated}
use Rattle.tt_leaf_rules.proofs.isolated.isolated_on.Goals as goal

pub open_on-live-requires : goal.open_on-live-requires
open_on-live-requires g c κs =
    let p = g.P.Path.problem c.args.path.now in
    let q = c.args.curriculum in
    let same = c.instance-instance.ensures in
    let ok = subst IsInstance same c.days.ensures.instance in
    let are : c.members-members.result.now ≡ members p q = c.members-members.ensures.value ∙ ap (λ z. members z q) same in
    ((refl, tt), (subst (λ ms. All (λ k. k < length p.courses) ms) (sym are) (members_below p q ok c.requires.curriculum), c.requires.day))

pub returns : goal.returns
returns g c =
    let p = g.P.Path.problem c.args.path.now in
    let q = c.args.curriculum in
    let same = c.instance-instance.ensures in
    let at_most : p.periods ≤ 64 = omega (arith, c.periods.ensures.value, c.periods.ensures.within, ap (λ z. z.periods) same) in
    let are : c.members-members.result.now ≡ members p q = c.members-members.ensures.value ∙ ap (λ z. members z q) same in
    all-isolated p (g.P.Path.facts c.args.path.now) q c.args.day c.requires.day at_most c.pinned_periods-pinned.result
    c.pinned_periods-pinned.ensures
    c.members-members.result.now are c.open_on-live.result c.open_on-live.ensures
    c.next.result c.previous.result c.without.result c.without-2.result c.next.ensures c.previous.ensures c.without.ensures
    c.without-2.ensures

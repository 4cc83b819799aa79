use Rattle.std.proofs.Common.{◌≡◌, ◌+◌, ◌<◌, get_or, length, sym, subst, drop}
use Rattle.std.specs.Prelude.{filter, slice_get, IfSome}
use Rattle.std.proofs.lemmas.Option.{slice_get-get_or}
use Rattle.tt_table.specs.Groups.{in_group, group_of, led_group, nobody, Grouped}
use Rattle.tt_table.proofs.Grouping.{led_after}
use Rattle.tt_table.proofs.groups.Groups.after.Goals as goal

pub returns-clause-group : goal.returns-clause-group
returns-clause-group c =
    let by = c.self.inside.by in
    let t = c.self.inside.entries.now in
    let i = c.args.index in
    let rest = led_group by (drop (get_or c.self.inside.links.next i 0) t) in
    let within : i < length t = subst (λ (s : Grouped). i < length s.entries) (sym c.self.view_is) c.requires in
    subst (λ (s : Grouped). IfSome (slice_get s.entries i)
    (λ e. rest ≡ filter (in_group s.by (group_of s.by e)) (drop (i + 1) s.entries))) c.self.view_is
    (subst (λ o. IfSome o (λ e. rest ≡ filter (in_group by (group_of by e)) (drop (i + 1) t))) (sym (slice_get-get_or t i nobody within))
    (led_after by t c.self.inside.links.next i c.self.invariant.chained within))

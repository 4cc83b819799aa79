use Rattle.std.proofs.Common.{All, inl, inr, ◌+◌, ◌*◌, ◌<◌, ◌++◌, [], map, subst, sym, ap, ◌∙◌}
use Rattle.tt_leaf_rules.specs.Inner.NumberSet.{are_new, places_of}
use Rattle.tt_leaf_rules.proofs.Meeting.{placed_first, priced_places}
use Rattle.tt_leaf_rules.proofs.targets.insert_targets.Goals as goal

pub insert-requires : goal.insert-requires
insert-requires c = placed_first c.args.claim.now (4 * c.in-Capacity.course) [] c.requires (ap places_of c.in-Capacity.is)

pub insert-requires-in-Days : goal.insert-requires-in-Days
insert-requires-in-Days c = placed_first c.args.claim.now (4 * c.in-Days.course + 1) [] c.requires
    (elim c.in-Days.is [ inl e ↦ ap places_of e | inr e ↦ ap places_of e ])

pub insert-requires-in-Compact : goal.insert-requires-in-Compact
insert-requires-in-Compact c = placed_first c.args.claim.now (4 * c.in-Compact.curriculum + 2) [] c.requires (ap places_of c.in-Compact.is)

pub insert-requires-in-Stable : goal.insert-requires-in-Stable
insert-requires-in-Stable c = placed_first c.args.claim.now (4 * c.in-Stable.course + 3) [] c.requires (ap places_of c.in-Stable.is)

pub insert_capacities-requires : goal.insert_capacities-requires
insert_capacities-requires c =
    let are = ap (map (λ k. 4 * k.0)) c.as_slice.ensures ∙ priced_places c.in-Prices.courses c.in-Prices.rooms
    ∙ ap places_of (sym c.in-Prices.is) in
    subst (All (λ n. n < 32768)) (sym are) c.requires

pub returns-in-Prices : goal.returns-in-Prices
returns-in-Prices c = λ behind.
    let are = ap (map (λ k. 4 * k.0)) c.as_slice.ensures ∙ priced_places c.in-Prices.courses c.in-Prices.rooms
    ∙ ap places_of (sym c.in-Prices.is) in
    ap (λ l. are_new c.args.taken.now (l ++ behind)) (sym are) ∙ c.insert_capacities.ensures behind

use Rattle.std.proofs.Common.{◌<◌, length, get_or, sym, subst, arith}
use Rattle.std.proofs.lemmas.List.{length-map, get_or-map}
use Rattle.std.proofs.lemmas.List.Elements.{All-get_or}
use Rattle.tt_instance.specs.Seen.{unavailability_seen, unavailabilities_seen}
use Rattle.tt_instance.specs.Inner.Indexed.{IsInWeek}
use Rattle.tt_instance.specs.declared.rows.UnavailabilityRow.{UnavailabilityRow}
use Rattle.tt_instance.proofs.barred.add_rows.Goals as goal

pub add_row-requires-clause-inside : goal.add_row-requires-clause-inside
add_row-requires-clause-inside c =
    let count = length c.args.list.now.marks.items in
    let rows = c.args.rows.now in
    let none : UnavailabilityRow = record { course = 0; day = 0; period = 0 } in
    let i = c.loop-row.row-index in
    let here : i < length (unavailabilities_seen rows) = omega (arith, c.loop-row-test.true, length-map rows unavailability_seen) in
    let at = All-get_or (IsInWeek count c.args.days) (unavailabilities_seen rows) i (unavailability_seen none) here c.requires.inside in
    let is = get_or-map unavailability_seen rows i none (unavailability_seen none) c.loop-row-test.true in
    subst (λ n. IsInWeek n c.args.days (unavailability_seen (get_or rows i none))) (sym c.loop-row.invariant.long)
    (subst (IsInWeek count c.args.days) is at)

use Rattle.std.proofs.Common.{◌≡◌, ◌≤◌, ◌<◌, [], ◌++◌, length, get_or, take, sym, ap, ◌∙◌, subst, arith}
use Rattle.std.specs.Prelude.{All}
use Rattle.std.specs.List.{filter_map, cons_option}
use Rattle.std.proofs.lemmas.List.{take_all}
use Rattle.tt_instance.specs.Cells.{all_slots}
use Rattle.tt_path.specs.Live.{least_excess}
use Rattle.tt_list_laws.proofs.Given.{filter_map_more, All-option}
use Rattle.tt_leaf_find.proofs.prices.least_excesses.Goals as goal

pub loop-place-preserved : goal.loop-place-preserved
loop-place-preserved g c =
    let p = g.P.Path.problem c.args.path.now in
    let h = least_excess p (g.P.Path.facts c.args.path.now) c.args.course in
    let same = c.instance-instance.ensures in
    let place = c.loop-place.place in
    let slot = c.slot_at-slot.result in
    let here : place < length (all_slots c.instance-instance.result.now) = omega (arith, c.slot_count-place-end.ensures.value) in
    let there = subst (λ z. place < length (all_slots z)) same here in
    let is = subst (λ z. slot ≡ get_or (all_slots z) place slot) same c.slot_at-slot.ensures.value in
    let pushed = c.in_ok-push_some.ensures in
    record {
      found =
          pushed ∙ ap (λ l. l ++ cons_option c.least_excess.result []) c.loop-place.invariant.found
          ∙ ap (λ o. filter_map h (take place (all_slots p)) ++ cons_option o []) c.least_excess.ensures.value
          ∙ sym (filter_map_more h (all_slots p) place slot there is);
      within = subst (All (λ n. n ≤ 1000000)) (sym pushed)
          (All-option (λ n. n ≤ 1000000) c.loop-place.excesses.items c.least_excess.result c.loop-place.invariant.within
          c.least_excess.ensures.within);
    }

pub returns-clause-value : goal.returns-clause-value
returns-clause-value g c =
    let p = g.P.Path.problem c.args.path.now in
    let h = least_excess p (g.P.Path.facts c.args.path.now) c.args.course in
    let all : length (all_slots c.instance-instance.result.now) ≤ c.loop-place.place =
    omega (arith, c.slot_count-place-end.ensures.value) in
    let done = subst (λ z. length (all_slots z) ≤ c.loop-place.place) c.instance-instance.ensures all in
    c.loop-place.invariant.found ∙ ap (filter_map h) (take_all c.loop-place.place (all_slots p) done)

pub returns-clause-within : goal.returns-clause-within
returns-clause-within g c = c.loop-place.invariant.within

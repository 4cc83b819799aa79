use Rattle.std.proofs.Common.{◌≡◌, cond, length, take, ap, ◌∙◌, arith}
use Rattle.std.specs.Prelude.{sum_by}
use Rattle.std.proofs.Math.Seq.{take-length}
use Rattle.tt_list_laws.proofs.Sums.{sum_by-swap}
use Rattle.tt_instance.specs.Cells.{all_rooms, all_slots}
use Rattle.tt_leaf_rules.specs.Inner.Nested.{live_in, open_in_period}
use Rattle.tt_leaf_rules.proofs.groups.open_rooms.Goals as goal

pub returns-clause-value : goal.returns-clause-value
returns-clause-value g c =
    let p = g.P.Path.problem c.args.path.now in
    let path = g.P.Path.facts c.args.path.now in
    let cs = c.args.courses.now in
    let end : c.loop-place.place ≡ length (all_slots p) =
    omega (arith, c.slot_count-place-end.ensures.value, ap (λ q. length (all_slots q)) c.instance-instance.ensures) in
    c.loop-place.invariant.summed ∙ ap (λ n. sum_by (open_in_period p path cs) (take n (all_slots p))) end
    ∙ ap (sum_by (open_in_period p path cs)) (take-length (all_slots p))
    ∙ sum_by-swap (λ s r. cond (live_in p path cs r s) 1 0) (all_slots p) (all_rooms p)

use Rattle.std.proofs.Common.{◌≡◌, ℕ, ◌<◌, List, length, sym, ap, ◌∙◌, subst, get_or}
use Rattle.std.specs.Prelude.{All}
use Rattle.std.proofs.lemmas.List.{take_all}
use Rattle.tt_list_laws.specs.Words.{has_number}
use Rattle.tt_instance.specs.Cells.{InRange}
use Rattle.tt_rules.specs.Hard.{entries_of}
use Rattle.tt_rules.specs.Score.{IsFeasible}
use Rattle.tt_occupancy.specs.Filled.{Filled, no_entry}
use Rattle.tt_moves_chain.specs.Chains.{Kempe, swapped, other}
use Rattle.tt_moves_chain.proofs.Swapping.{filled, swapped_none, still_inside, swapped_next}
use Rattle.tt_moves_chain.proofs.Turned.{entries-swapped, chain_feasible}
use Rattle.tt_moves_chain.proofs.turning.swap_chain.Goals as goal

pub loop-member-init : goal.loop-member-init
loop-member-init c =
    let o = c.args.occupied.now in
    ap (filled o.problem) (sym (swapped_none c.args.chain.now.from c.args.chain.now.to o.entries))

pub entry-entry-requires : goal.entry-entry-requires
entry-entry-requires c =
    let o = c.args.occupied.now in
    let x = c.args.chain.now in
    let ms = c.members-member-items.result.now in
    let k = c.loop-member.member-index in
    let inside_here = subst (λ (l : List ℕ). All (λ i. i < length o.entries) l)
    (sym c.members-member-items.ensures.value) c.requires.inside k 0 c.loop-member-test.true in
    still_inside x.from x.to o.problem o.entries ms c.members-member-items.ensures.rising k c.loop-member-test.true
    c.loop-member.occupied c.loop-member.invariant inside_here

pub move_entry-requires-clause-index : goal.move_entry-requires-clause-index
move_entry-requires-clause-index c =
    let o = c.args.occupied.now in
    let x = c.args.chain.now in
    let ms = c.members-member-items.result.now in
    let k = c.loop-member.member-index in
    let inside_here = subst (λ (l : List ℕ). All (λ i. i < length o.entries) l)
    (sym c.members-member-items.ensures.value) c.requires.inside k 0 c.loop-member-test.true in
    still_inside x.from x.to o.problem o.entries ms c.members-member-items.ensures.rising k c.loop-member-test.true
    c.loop-member.occupied c.loop-member.invariant inside_here

pub move_entry-requires-clause-room : goal.move_entry-requires-clause-room
move_entry-requires-clause-room c =
    let o = c.args.occupied.now in
    let x = c.args.chain.now in
    let ms = c.members-member-items.result.now in
    let k = c.loop-member.member-index in
    let inside_here = subst (λ (l : List ℕ). All (λ i. i < length o.entries) l)
    (sym c.members-member-items.ensures.value) c.requires.inside k 0 c.loop-member-test.true in
    let s = c.loop-member.occupied in
    let inside = still_inside x.from x.to o.problem o.entries ms c.members-member-items.ensures.rising k c.loop-member-test.true s
    c.loop-member.invariant inside_here in
    (subst (InRange s.problem) (sym c.entry-entry.ensures.value) (c.entry-entry.ensures.in_range (get_or ms k 0) no_entry inside)).room

pub loop-member-preserved : goal.loop-member-preserved
loop-member-preserved c =
    let o = c.args.occupied.now in
    let x = c.args.chain.now in
    let ms = c.members-member-items.result.now in
    let k = c.loop-member.member-index in
    let inside_here = subst (λ (l : List ℕ). All (λ i. i < length o.entries) l)
    (sym c.members-member-items.ensures.value) c.requires.inside k 0 c.loop-member-test.true in
    c.move_entry.ensures
    ∙ swapped_next x.from x.to o.problem o.entries ms c.members-member-items.ensures.rising k c.loop-member-test.true
    c.loop-member.occupied c.loop-member.invariant inside_here c.entry-entry.result c.entry-entry.ensures.value c.other_period-place.result
    (subst (λ (z : Kempe). c.other_period-place.result ≡ other z.from z.to c.entry-entry.result) c.chain.view_is
    c.other_period-place.ensures)

pub returns-clause-courses : goal.returns-clause-courses
returns-clause-courses c = λ course.
    let x = c.args.chain.now in
    let t = c.args.occupied.now.entries in
    let all = take_all c.loop-member.member-index c.members-member-items.result.now c.loop-member-test.false
    ∙ c.members-member-items.ensures.value in
    ap (λ (z : Filled). entries_of z.entries course) c.loop-member.invariant
    ∙ ap (λ ms. entries_of (swapped x.from x.to (has_number ms) t) course) all
    ∙ entries-swapped x.from x.to (has_number x.members) 0 course t

pub returns-clause-feasible : goal.returns-clause-feasible
returns-clause-feasible c = λ feasible.
    let x = c.args.chain.now in
    let o = c.args.occupied.now in
    let r = c.requires in
    let all = take_all c.loop-member.member-index c.members-member-items.result.now c.loop-member-test.false
    ∙ c.members-member-items.ensures.value in
    let is = ap (λ (z : Filled). z.entries) c.loop-member.invariant ∙ ap (λ ms. swapped x.from x.to (has_number ms) o.entries) all in
    subst (IsFeasible o.problem) (sym is)
    (chain_feasible o.problem o.entries x.from x.to (has_number x.members) r.apart r.from.day r.from.period r.to.day r.to.period
    feasible r.closed r.free)

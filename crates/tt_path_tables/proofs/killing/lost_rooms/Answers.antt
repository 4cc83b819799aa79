use Rattle.std.proofs.Common.{◌≡◌, ◌<◌, ◌&&◌, false, length, sym, ap, ◌∙◌, arith}
use Rattle.std.specs.Prelude.{slice_index_or}
use Rattle.std.proofs.lemmas.Bool.{both_ways}
use Rattle.tt_path_tables.specs.Inner.Rooms.{has_room}
use Rattle.tt_path_tables.specs.Inner.Struck.{is_lost_to}
use Rattle.tt_path_tables.proofs.Losing.{failed_within}
use Rattle.tt_path_tables.proofs.killing.lost_rooms.Goals.{in-Nothing, in_default}
use Rattle.tt_path_tables.proofs.killing.lost_rooms.Goals as goal

pub returns-then-matches : goal.returns-then-matches
returns-then-matches c = λ r.
    let a = c.args in
    let basis = a.basis.now in
    let demand = a.demand.now in
    let ks = demand.courses.now in
    let i = c.loop-other.other-index in
    let here : i < length ks = omega arith in
    let beside = is_lost_to basis.instance.now basis.free.now.words demand.pattern.now a.slot.day a.slot.period a.course r in
    let none : has_room c.both-lost.result r ≡ false = elim c.match-matches.branch [
      | in-Nothing w ↦ ap (λ l. has_room l r) w.in-Nothing.is
      | in_default w ↦ absurd (both_ways c.match-matches.matches w.matches-is c.if-matches.true)
    ] in
    sym (failed_within beside i ks here (ap (λ b. b && beside (slice_index_or ks i 0)) (sym (c.loop-other.invariant r))
    ∙ ap (λ b. has_room c.loop-other.lost r && b) (sym (c.rooms_lost_to.ensures r)) ∙ sym (c.both-lost.ensures r) ∙ none))

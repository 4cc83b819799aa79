use Rattle.std.proofs.Common.{◌≤◌, ◌<◌, not, ◌||◌, length, sym, ap, ◌∙◌, arith, le-leb}
use Rattle.std.proofs.lemmas.Bool.{lt-leb}
use Rattle.tt_instance.specs.Cells.{slot, cell}
use Rattle.tt_path.specs.Live.{is_dead}
use Rattle.tt_leaf_rules.specs.Inner.Nested.{are_rooms_dead}
use Rattle.tt_leaf_rules.proofs.Nested.{are_rooms_dead-any, are_rooms_dead-one}
use Rattle.tt_leaf_rules.proofs.empty.are_rooms_dead.Goals as goal

pub returns-in-None : goal.returns-in-None
returns-in-None g c =
    let a = c.args in
    let p = g.P.Path.problem a.path.now in
    let path = g.P.Path.facts a.path.now in
    let s = slot a.day a.period in
    ap not c.live_period.ensures ∙ are_rooms_dead-any p path a.course s ∙ ap (λ o. are_rooms_dead p path o a.course s) (sym c.in-None.is)

pub returns-then-room-rooms : goal.returns-then-room-rooms
returns-then-room-rooms g c =
    let a = c.args in
    let p = g.P.Path.problem a.path.now in
    let path = g.P.Path.facts a.path.now in
    let s = slot a.day a.period in
    let r = c.in-Some.room in
    let past : length p.rooms ≤ r = omega (arith, c.rooms.ensures.value, ap (λ q. length q.rooms) c.instance.ensures) in
    le-leb c.rooms.result r c.if-room-rooms.true
    ∙ sym (are_rooms_dead-one p path a.course s r ∙ ap (λ b. b || is_dead p path (cell a.course r s)) (le-leb (length p.rooms) r past))
    ∙ ap (λ o. are_rooms_dead p path o a.course s) (sym c.in-Some.is)

pub returns-else-room-rooms : goal.returns-else-room-rooms
returns-else-room-rooms g c =
    let a = c.args in
    let p = g.P.Path.problem a.path.now in
    let path = g.P.Path.facts a.path.now in
    let s = slot a.day a.period in
    let r = c.in-Some.room in
    let here : r < length p.rooms = omega (arith, c.rooms.ensures.value, ap (λ q. length q.rooms) c.instance.ensures) in
    c.dead.ensures
    ∙ sym (are_rooms_dead-one p path a.course s r ∙ ap (λ b. b || is_dead p path (cell a.course r s)) (lt-leb (length p.rooms) r here))
    ∙ ap (λ o. are_rooms_dead p path o a.course s) (sym c.in-Some.is)

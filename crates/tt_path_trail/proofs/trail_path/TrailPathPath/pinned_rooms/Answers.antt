use Rattle.std.proofs.Common.{◌+◌, ◌*◌, ◌&&◌, length, ap, ◌∙◌}
use Rattle.tt_path.specs.Inner.Paths.{Facts}
use Rattle.std.specs.Prelude.{nat_lt}
use Rattle.tt_path.specs.Live.{pinned_room}
use Rattle.tt_path_trail.proofs.Halving.{room_pinned_by_yes, by_halves}
use Rattle.tt_path_trail.proofs.trail_path.TrailPathPath.pinned_rooms.Goals as goal

pub returns : goal.returns
returns c =
    let s = c.self.inside in
    let a = c.args in
    λ n h.
    let r = a.block * 64 + n in
    c.pinned_rooms.ensures n h
    ∙ by_halves (λ p fs. nat_lt r (length p.rooms) && pinned_room p fs a.course r)
    (λ p fs. ap (λ b. nat_lt r (length p.rooms) && b) (room_pinned_by_yes p fs a.course r)) s.cells s.pins c.self.invariant
    ∙ ap (λ (v : Facts). nat_lt r (length v.problem.rooms) && pinned_room v.problem v.facts a.course r) c.self.view_is

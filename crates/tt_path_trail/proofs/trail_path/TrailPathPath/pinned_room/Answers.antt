use Rattle.std.proofs.Common.{ap, ◌∙◌}
use Rattle.tt_path.specs.Inner.Paths.{Facts}
use Rattle.tt_path.specs.Live.{pinned_room}
use Rattle.tt_path_trail.proofs.Halving.{room_pinned_by_yes, by_halves}
use Rattle.tt_path_trail.proofs.trail_path.TrailPathPath.pinned_room.Goals as goal

pub returns : goal.returns
returns c =
    let s = c.self.inside in
    let a = c.args in
    c.pinned_room.ensures
    ∙ by_halves (λ p fs. pinned_room p fs a.course a.room) (λ p fs. room_pinned_by_yes p fs a.course a.room) s.cells s.pins c.self.invariant
    ∙ ap (λ (v : Facts). pinned_room v.problem v.facts a.course a.room) c.self.view_is

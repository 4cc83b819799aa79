use Rattle.std.proofs.Common.{ap, ◌∙◌}
use Rattle.tt_path.specs.Inner.Paths.{Facts}
use Rattle.tt_instance.specs.Cells.{slot}
use Rattle.tt_path.specs.Live.{pinned}
use Rattle.tt_path_trail.proofs.Halving.{pinned_by_yes, by_halves}
use Rattle.tt_path_trail.proofs.trail_path.TrailPathPath.pinned.Goals as goal

pub returns : goal.returns
returns c =
    let s = c.self.inside in
    let a = c.args in
    let at = slot a.day a.period in
    c.pinned.ensures
    ∙ by_halves (λ p fs. pinned p fs a.who at) (λ p fs. pinned_by_yes p fs a.who at) s.cells s.pins c.self.invariant
    ∙ ap (λ (v : Facts). pinned v.problem v.facts a.who at) c.self.view_is

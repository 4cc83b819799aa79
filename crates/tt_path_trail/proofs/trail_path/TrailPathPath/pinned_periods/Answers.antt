use Rattle.std.proofs.Common.{◌&&◌, ap, ◌∙◌}
use Rattle.tt_path.specs.Inner.Paths.{Facts}
use Rattle.std.specs.Prelude.{nat_lt}
use Rattle.tt_instance.specs.Cells.{slot}
use Rattle.tt_path.specs.Live.{pinned}
use Rattle.tt_path_trail.proofs.Halving.{pinned_by_yes, by_halves}
use Rattle.tt_path_trail.proofs.trail_path.TrailPathPath.pinned_periods.Goals as goal

pub returns : goal.returns
returns c =
    let s = c.self.inside in
    let a = c.args in
    λ n h.
    c.pinned_periods.ensures n h
    ∙ by_halves (λ p fs. nat_lt n p.periods && pinned p fs a.who (slot a.day n))
    (λ p fs. ap (λ b. nat_lt n p.periods && b) (pinned_by_yes p fs a.who (slot a.day n))) s.cells s.pins c.self.invariant
    ∙ ap (λ (v : Facts). nat_lt n v.problem.periods && pinned v.problem v.facts a.who (slot a.day n)) c.self.view_is

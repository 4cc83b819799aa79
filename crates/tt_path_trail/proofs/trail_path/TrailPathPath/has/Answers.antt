use Rattle.std.proofs.Common.{true, sym, ap, ◌∙◌}
use Rattle.tt_path.specs.Inner.Paths.{Facts}
use Rattle.tt_path.specs.Facts.{has_fact}
use Rattle.tt_path_trail.proofs.Halving.{stands_by_yes, by_halves}
use Rattle.tt_path_trail.proofs.trail_path.TrailPathPath.has.Goals as goal

pub returns-then-holds : goal.returns-then-holds
returns-then-holds c =
    let s = c.self.inside in
    let g = c.args.pattern.now in
    c.has.ensures
    ∙ by_halves (λ p fs. has_fact fs g true) (λ p fs. stands_by_yes fs g) s.cells s.pins c.self.invariant
    ∙ ap (λ (v : Facts). has_fact v.facts g true) c.self.view_is
    ∙ ap (λ b. has_fact c.args.self.now.facts g b) (sym c.if-holds.true)

use Rattle.std.proofs.Common.{sym, ap, ◌∙◌}
use Rattle.tt_path.specs.Facts.{has_fact}
use Rattle.tt_path.specs.Inner.Paths.{Facts}
use Rattle.tt_path_pins.proofs.FactTable.{unplaced_has_fact}
use Rattle.tt_path_pins.proofs.pins.Pins.has.Goals as goal

pub returns-in-None : goal.returns-in-None
returns-in-None c =
    let s = c.self.inside in
    let g = c.args.pattern.now in
    let h = c.args.holds in
    c.is_listed.ensures
    ∙ ap (λ l. has_fact l g h) (c.as_slice.ensures.value ∙ c.self.invariant.unplaced)
    ∙ unplaced_has_fact s.instance.now s.facts.items g h (sym c.find_bit_place.ensures.value ∙ c.in-None.is)
    ∙ ap (λ (v : Facts). has_fact v.facts g h) c.self.view_is

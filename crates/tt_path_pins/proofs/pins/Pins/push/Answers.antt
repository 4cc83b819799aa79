use Rattle.std.proofs.Common.{◌≡◌, ◌++◌, [], ◌∷◌, length, length-append, ap, arith}
use Rattle.tt_path.specs.Inner.Paths.{Facts}
use Rattle.tt_path_pins.specs.Inner.Tables.{ShowsPins}
use Rattle.tt_path_pins.specs.Inner.FactTable.{ShowsFacts}
use Rattle.tt_path_pins.proofs.Earlier.{earlier_pushed}
use Rattle.tt_path_pins.proofs.Shown.{shown_more}
use Rattle.tt_path_pins.proofs.FactTable.{fact_table_more}
use Rattle.tt_path_pins.proofs.pins.Pins.push.Goals as goal

pub invariant_of-self-in_default : goal.invariant_of-self-in_default
invariant_of-self-in_default c =
    let s = c.self.inside in
    let p = s.instance.now in
    let f = c.args.fact in
    let added = c.in_default.ensures in
    let e : c.list_fact.new.facts.items ≡ s.facts.items ++ f ∷ [] = c.in_ok-list_fact.ensures.ok in
    let before = c.self.invariant in
    record {
      depth = omega (arith, ap length e, length-append s.facts.items (f ∷ []), ap (λ (v : Facts). length v.facts) c.self.view_is);
      unplaced = c.in_ok-list_fact.ensures.unplaced;
      links = before.links;
      shown = rw e (shown_more p s.facts.items f s.pinned.words c.add.new.pinned.words before.shown added.pins);
      earlier = rw (e, added.kept_pinned)
          (earlier_pushed (ShowsPins p) s.facts.items f s.pinned.earlier s.pinned.words before.shown before.earlier);
      facts_shown = rw e (fact_table_more p s.facts.items f s.fact_table.words c.add.new.fact_table.words before.facts_shown added.adds);
      facts_earlier =
          rw (e, added.kept_fact_table)
          (earlier_pushed (ShowsFacts p) s.facts.items f s.fact_table.earlier s.fact_table.words before.facts_shown
          before.facts_earlier);
    }

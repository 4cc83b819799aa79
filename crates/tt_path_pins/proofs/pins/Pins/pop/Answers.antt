use Rattle.std.proofs.Common.{◌≡◌, ◌++◌, [], ◌∷◌, length, length-append, ap, arith}
use Rattle.tt_path_pins.specs.Inner.Tables.{ShowsPins}
use Rattle.tt_path_pins.specs.Inner.FactTable.{ShowsFacts}
use Rattle.tt_path_pins.proofs.Earlier.{earlier_popped}
use Rattle.tt_path_pins.proofs.pins.Pins.pop.Goals as goal

pub invariant_of-self : goal.invariant_of-self
invariant_of-self c =
    let s = c.self.inside in
    let p = s.instance.now in
    let facts = c.unlist_fact.new.facts.items in
    let f = c.unlist_fact.result in
    let pinned = c.undo.new.self in
    let fact_table = c.undo-2.new.self in
    let e : s.facts.items ≡ facts ++ f ∷ [] = c.unlist_fact.ensures.fact in
    let pins = earlier_popped (ShowsPins p) facts f pinned.earlier pinned.words (rw (e, c.undo.ensures) at c.self.invariant.earlier) in
    let facts_shown = earlier_popped (ShowsFacts p) facts f fact_table.earlier fact_table.words
    (rw (e, c.undo-2.ensures) at c.self.invariant.facts_earlier) in
    record {
      depth = omega (arith, c.self.invariant.depth, ap length e, length-append facts (f ∷ []));
      unplaced = c.unlist_fact.ensures.unplaced;
      links = c.self.invariant.links;
      shown = pins.0;
      earlier = pins.1;
      facts_shown = facts_shown.0;
      facts_earlier = facts_shown.1;
    }

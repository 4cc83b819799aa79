use Rattle.std.proofs.Common.{◌<◌, ◌≤◌, length, ◌∙◌, arith, length-append, ap}
use Rattle.std.proofs.lemmas.List.{length-set}
use Rattle.std.proofs.lemmas.Grind.{get_or_default_zero}
use Rattle.tt_bits.specs.Inner.TrailStates.{TrailStates}
use Rattle.tt_bits.proofs.Undoing.{climb_further, climb_at_most, tables_at-write, within_more}
use Rattle.tt_bits.proofs.trail.Trail.set.Goals as goal

pub invariant_of-self-2 : goal.invariant_of-self-2
invariant_of-self-2 c =
    let t = c.self.inside in
    let n = length t.log.items in
    let k : c.args.place < length t.words.items = omega (arith, ap (λ (v : TrailStates). length v.words) c.self.view_is) in
    let m : n ≤ length c.push.new.self.items = omega (arith, ap length c.in_ok-push.ensures.items, length-append t.log.items) in
    record {
      marks = climb_further t.marks.items n (length c.push.new.self.items) m c.self.invariant.marks;
      places = rw (length-set t.words.items c.args.place c.args.word, c.in_ok-push.ensures.items)
          (within_more (length t.words.items) t.log.items _ c.self.invariant.places k);
    }

pub returns-clause-unchanged : goal.returns-clause-unchanged
returns-clause-unchanged c =
    let t = c.self.inside in
    let k : c.args.place < length t.words.items = omega (arith, ap (λ (v : TrailStates). length v.words) c.self.view_is) in
    let h = c.index.ensures ∙ get_or_default_zero t.words.items c.args.place c.index.result.now k in
    rw c.in_ok-push.ensures.items (tables_at-write t.words.items t.log.items _ c.args.word t.marks.items k h
    (climb_at_most t.marks.items (length t.log.items) c.self.invariant.marks) ∙ ap (λ (v : TrailStates). v.earlier) c.self.view_is)

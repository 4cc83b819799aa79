use Rattle.std.proofs.Common.{◌≡◌, ◌+◌, ◌≤◌, ◌++◌, [], ◌∷◌, refl, length, arith, ◌∙◌, ap, sym, length-append}
use Rattle.std.proofs.lemmas.List.{length-set}
use Rattle.tt_bits.specs.Inner.Undone.{table_at, tables_at}
use Rattle.tt_bits.proofs.Undoing.{climb_parts, last_taken, table_at-back, tables_at-back, within_parts, climb_at_most, at_most_all}
use Rattle.tt_bits.proofs.trail.Trail.undo.Goals as goal

pub loop-self-init : goal.loop-self-init
loop-self-init c =
    let t = c.self.inside in
    let e = last_taken t.marks.items c.pop.new.self.items c.pop.result c.unwrap-mark.result c.pop.ensures.items c.unwrap-mark.ensures in
    let a = climb_parts c.pop.new.self.items c.unwrap-mark.result (length t.log.items) (rw e at c.self.invariant.marks) in
    record {
      mark = a.1;
      marks = a.0;
      places = c.self.invariant.places;
      words = refl;
      earlier = refl;
    }

pub loop-self-preserved : goal.loop-self-preserved
loop-self-preserved c =
    let t = c.loop-self.self-inside in
    let b = c.self.inside in
    let i = c.loop-self.invariant in
    let o = c.unwrap-old.result in
    let log = c.pop-in-loop-self.new.self.items in
    let mark = c.unwrap-mark.result in
    let e : t.log.items ≡ log ++ o ∷ [] = last_taken t.log.items log c.pop-in-loop-self.result o c.pop-in-loop-self.ensures.items
    c.unwrap-old.ensures in
    let n : length t.log.items ≡ length log + 1 = ap length e ∙ length-append log (o ∷ []) in
    let m : mark ≤ length log = omega (arith, c.len.ensures) in
    let w = within_parts (length t.words.items) log o (rw e at i.places) in
    record {
      mark = m;
      marks = i.marks;
      places = rw (length-set t.words.items o.place o.word) w.0;
      words = sym (table_at-back t.words.items log o mark m) ∙ ap (λ l. table_at t.words.items l mark) (sym e) ∙ i.words;
      earlier = sym
          (tables_at-back t.words.items log o t.marks.items
          (at_most_all t.marks.items mark (length log) m (climb_at_most t.marks.items mark i.marks)))
          ∙ ap (λ l. tables_at t.words.items l t.marks.items) (sym e) ∙ i.earlier;
    }

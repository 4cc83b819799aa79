use Rattle.std.proofs.Common.{◌+◌, ◌<◌, length, take, refl, ap, ◌∙◌, arith}
use Rattle.tt_moves.specs.Steps.{entry_at}
use Rattle.tt_walk.specs.Improved.{courses_of}
use Rattle.tt_search.proofs.Restored.{length_same, courses_restored, front_restored}
use Rattle.tt_search.proofs.restoring.restore.Goals as goal

pub loop-index-preserved : goal.loop-index-preserved
loop-index-preserved c =
    let l = c.loop-index in
    let u = c.args.entries.now in
    let t = l.occupied.entries in
    let inside : l.index < length t =
    omega (
      arith,
      length_same t u l.invariant.courses,
      length_same c.args.occupied.now.entries u c.requires.courses,
      ap length c.table.ensures.value,
    ) in
    record {
      problem = ap (λ o. o.problem) c.move_entry.ensures ∙ l.invariant.problem;
      courses = ap (λ o. courses_of o.entries) c.move_entry.ensures ∙ courses_restored t u l.index _ _ _ l.invariant.courses;
      front = ap (λ o. take (l.index + 1) o.entries) c.move_entry.ensures
          ∙ front_restored t u l.index (entry_at u l.index) inside l.invariant.courses refl l.invariant.front;
    }

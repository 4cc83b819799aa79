use Rattle.std.proofs.Common.{◌≡◌, length, sym, ap, subst, ◌∙◌}
use Rattle.tt_instance.specs.Inner.Indexed.{AreMarked, IsBarred}
use Rattle.tt_instance_read.proofs.Indexing.{listed}
use Rattle.tt_instance_read.proofs.parts.read_parts.Goals as goal

pub returns-clause-indexed : goal.returns-clause-indexed
returns-clause-indexed c =
    let named = c.in_ok-courses.courses in
    let list = c.in_ok-courses-2.courses in
    let rows = c.in_ok-curricula.curricula.rows in
    let size : length named.ids ≡ length list.rows.items = c.in_ok-courses.ensures.each ∙ ap length (sym c.in_ok-courses-2.ensures.rows) in
    record {
      courses = listed named list c.in_ok-courses.ensures.courses c.in_ok-courses-2.ensures.rows c.in_ok-courses-2.ensures.teachers;
      curricula = rw c.into_rows-2.ensures (subst (λ n. AreMarked n rows.items) size c.in_ok-curricula.ensures.curricula.marked);
      unavailabilities = subst (λ n. IsBarred n c.in_ok-header.header.days c.in_ok-curricula.unavailabilities) size
          c.in_ok-curricula.ensures.unavailabilities;
    }

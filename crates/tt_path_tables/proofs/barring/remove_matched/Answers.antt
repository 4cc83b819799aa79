use Rattle.std.proofs.Common.{◌≡◌, ◌+◌, ◌<◌, ◌&&◌, length, take, ap, ◌∙◌, arith}
use Rattle.std.specs.Prelude.{◌==◌}
use Rattle.std.proofs.Math.Seq.{take-length}
use Rattle.std.specs.Prelude.{slice_index_or}
use Rattle.tt_list_laws.specs.Words.{has_number}
use Rattle.tt_path.specs.Facts.{matches}
use Rattle.tt_path.specs.Inner.Nested.{has_place_of, courses_of}
use Rattle.tt_path_tables.proofs.Losing.{loses-same, loses-more}
use Rattle.tt_path_tables.proofs.Barred.{course_at, courses_gone}
use Rattle.tt_path_tables.proofs.barring.remove_matched.Goals as goal

pub loop-course-preserved : goal.loop-course-preserved
loop-course-preserved c =
    let a = c.args in
    let p = a.instance.now in
    let g = a.pattern.now in
    let ks = c.courses_of-course-items.result.now in
    let i = c.loop-course.course-index in
    let mid = c.loop-course.table.words in
    let new = c.remove_of.new.table.words in
    let here : i < length ks = omega arith in
    record {
      loses = loses-more p a.table.now.words mid new (λ x. has_number (take i ks) x.course && has_place_of g x)
          (λ x. (x.course == slice_index_or ks i 0) && has_place_of g x)
          (λ x. has_number (take (i + 1) ks) x.course && has_place_of g x) c.loop-course.invariant.loses c.in_ok-remove_of.ensures.ok
          (λ x h. course_at p g ks i here x);
      earlier = c.remove_of.ensures.unchanged ∙ c.loop-course.invariant.earlier;
    }

pub returns-clause-ok : goal.returns-clause-ok
returns-clause-ok c =
    let a = c.args in
    let p = a.instance.now in
    let g = a.pattern.now in
    let ks = c.courses_of-course-items.result.now in
    let i = c.loop-course.course-index in
    let end : i ≡ length ks = omega arith in
    let whole : take i ks ≡ courses_of p g.who = ap (λ n. take n ks) end ∙ take-length ks ∙ c.courses_of-course-items.ensures in
    loses-same p a.table.now.words c.loop-course.table.words (λ x. has_number (take i ks) x.course && has_place_of g x)
    (matches p g) c.loop-course.invariant.loses
    (λ x h. ap (λ l. has_number l x.course && has_place_of g x) whole ∙ courses_gone p g x)

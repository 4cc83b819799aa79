use Rattle.std.proofs.Common.{◌≡◌, ℕ, ◌&&◌, get_or, count_by, ap, ◌∙◌, arith}
use Rattle.std.proofs.lemmas.List.Sums.{sum_by_more}
use Rattle.tt_list_laws.proofs.Filters.{count_by-of_filter}
use Rattle.tt_instance.specs.Cells.{is_of}
use Rattle.tt_rules.specs.Inner.Places.{is_alone}
use Rattle.tt_rules.proofs.compactness.alone_of.Goals as goal

pub loop-course-preserved : goal.loop-course-preserved
loop-course-preserved c =
    let p = c.args.instance.now in
    let t = c.args.by_course.now.entries in
    let cs = c.args.courses.now in
    let i = c.loop-course.course-index in
    let marks = c.args.taught.now in
    let of : ℕ → ℕ = λ a. count_by (λ e. is_of a e && is_alone p marks e) t in
    let here : c.alone-total.result ≡ of (get_or cs i 0) =
    c.alone-total.ensures.count ∙ ap (count_by (is_alone p marks)) c.of_course.ensures.group ∙ count_by-of_filter (is_alone p marks)
    (is_of (get_or cs i 0)) t in
    let more = sum_by_more of cs i 0 c.loop-course-test.true in
    record {
      summed = omega (arith, here, more, c.loop-course.invariant.summed);
      at_most = omega (
        arith,
        c.loop-course.invariant.at_most,
        c.alone-total.ensures.at_most,
        c.of_course.ensures.at_most,
        c.requires.at_most,
      );
    }

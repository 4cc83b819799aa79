use Rattle.std.proofs.Common.{ℕ, ◌*◌, ◌<◌, length, arith}
use Rattle.std.proofs.lemmas.List.Sums.{sum_by_more}
use Rattle.tt_instance.specs.Courses.{lectures}
use Rattle.tt_leaf_rules.proofs.prices.course_prices.Goals as goal

pub loop-course-preserved : goal.loop-course-preserved
loop-course-preserved c =
    let i = c.loop-course.course-index in
    let there : i < length c.args.courses.now = omega arith in
    let more = sum_by_more (λ (k : ℕ × ℕ). lectures c.args.instance.now k.0 * k.1) c.args.courses.now i (0, 0) there in
    record { summed = omega (arith, more); at_most = omega arith }

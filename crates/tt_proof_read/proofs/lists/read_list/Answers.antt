use Rattle.std.proofs.Common.{◌<◌, ◌==◌, refl, ap, ◌∙◌}
use Rattle.std.proofs.lemmas.Result.{err_from_is_err_and}
use Rattle.std.proofs.lemmas.List.Elements.{All-nil, All-push}
use Rattle.tt_proof_read.specs.Inner.Listed.{Listed}
use Rattle.tt_proof_read.proofs.Distinct.{each_two_push}
use Rattle.tt_proof_read.proofs.ListTurns.{list_left}
use Rattle.tt_proof_read.proofs.Progress.{listed_takes}
use Rattle.tt_proof_read.proofs.Underway.{underway_first, underway_then, underway_end, underway_fails}
use Rattle.tt_proof_read.proofs.lists.read_list.Goals as goal

pub loop-course-init : goal.loop-course-init
loop-course-init g c =
    let none = ap (λ (l : Listed). l.numbers) c.clear.ensures in
    record {
      read = underway_first _ _ _ _ _ (λ s. list_left c.args.sizes _ s none);
      within = rw none (All-nil (λ n. n < c.args.sizes.courses));
      once = rw none refl;
      count = ap (λ (l : Listed). l.count) c.clear.ensures;
    }

pub returns-in_err-course-clause-read : goal.returns-in_err-course-clause-read
returns-in_err-course-clause-read g c =
    let p = err_from_is_err_and c.from_residual.result c.from_residual.ensures.1 in
    rw (p.1, p.2) (underway_fails _ _ _ _ c.in_err-course.field-0.0 _ _ _ _ c.loop-course.invariant.read c.in_err-course.ensures.read)

pub loop-course-preserved : goal.loop-course-preserved
loop-course-preserved g c =
    let below = rw c.in-Some.is at c.in_ok-course.ensures.within in
    let new = rw c.in-Some.is at c.in_ok-course.ensures.new in
    let added = ap (λ (l : Listed). l.numbers) c.in_ok-add.ensures.ok in
    record {
      read = rw added
          (underway_then _ _ _ (listed_takes c.args.sizes) _ _ _ _ c.in_ok-course.field-0 c.in-Some.course c.in-Some.is
          c.loop-course.invariant.read c.in_ok-course.ensures.read);
      within = rw added
          (All-push (λ n. n < c.args.sizes.courses) c.loop-course.seen.numbers c.in-Some.course c.loop-course.invariant.within below);
      once = rw added (each_two_push (λ a b. a == b) c.loop-course.seen.numbers c.in-Some.course c.loop-course.invariant.once new);
      count = ap (λ (l : Listed). l.count) c.in_ok-add.ensures.ok ∙ c.loop-course.invariant.count;
    }

pub returns-clause-read : goal.returns-clause-read
returns-clause-read g c = underway_end _ _ _ _ c.in_ok-courses.courses _ _ _ _ c.in_ok-course.field-0 c.in_ok-courses.ensures
    c.in_default.is c.loop-course.invariant.read c.in_ok-course.ensures.read

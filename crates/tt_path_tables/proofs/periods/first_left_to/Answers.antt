use Rattle.std.proofs.Common.{◌≡◌, [], ◌∷◌, sym, ap, ◌∙◌, arith, inl, inr}
use Rattle.tt_path_tables.specs.Inner.Slots.{is_left_in}
use Rattle.std.proofs.lemmas.Bool.{cases_lt}
use Rattle.tt_path_tables.proofs.Firsts.{none_gone, none_out}
use Rattle.tt_path_tables.proofs.periods.first_left_to.Goals as goal
use Rattle.tt_path_tables.proofs.periods.first_left_to.Goals.{then-course-courses-via-then-course-courses, then-course-courses-via-else-course-courses+then-is_gone}

pub loop-slot-init : goal.loop-slot-init
loop-slot-init c = record { none = λ k a b. absurd (omega arith) }

pub loop-slot-preserved : goal.loop-slot-preserved
loop-slot-preserved c =
    let a = c.args in
    let left = is_left_in a.basis.now.instance.now a.basis.now.free.now.words a.pattern.now (a.course ∷ []) in
    let n = c.loop-slot.slot in
    record {
      none = λ k from upto. elim (cases_lt k n) [
        | inl h ↦ c.loop-slot.invariant.none k from h
        | inr h ↦ let e : n ≡ k = omega arith in ap left (sym e) ∙ sym c.is_left_in.ensures ∙ c.if-is_left_in.false
      ];
    }

pub returns-then-is_left_in : goal.returns-then-is_left_in
returns-then-is_left_in c =
    record {
      from_here = omega arith;
      within = omega arith;
      passes = sym c.is_left_in.ensures ∙ c.if-is_left_in.true;
      before = c.loop-slot.invariant.none;
    }

pub returns : goal.returns
returns c = record { none = λ k from upto. c.loop-slot.invariant.none k from (omega arith) }

pub returns-then-course-courses : goal.returns-then-course-courses
returns-then-course-courses c =
    let a = c.args in
    let p = a.basis.now.instance.now in
    let free = a.basis.now.free.now.words in
    elim c.then-course-courses.branch [
      | then-course-courses-via-then-course-courses w ↦
          none_out p free a.pattern.now a.course a.from a.to (omega (arith, w.if-course-courses.true, c.courses.ensures.value))
      | then-course-courses-via-else-course-courses+then-is_gone w ↦
          none_gone p free a.pattern.now a.course a.from a.to
          (omega (arith, w.if-course-courses.false, c.courses.ensures.value)) c.requires.to
          (w.is_gone.ensures w.if-is_gone.true)
    ]

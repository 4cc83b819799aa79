use Rattle.std.proofs.Common.{◌≡◌, ℕ, ◌+◌, ◌<◌, ◌≤◌, [], ◌∷◌, take, Option, Some, None, length, sym, ap, subst, ◌∙◌, arith, inl, inr}
use Rattle.std.specs.Prelude.{MatchOption, slice_index_or, unwrap_or}
use Rattle.tt_path_tables.specs.Inner.Slots.{is_left_in, IsNone, IsFirst}
use Rattle.tt_path_tables.proofs.Firsts.{all_more, ended, one_more, then_first, then_none}
use Rattle.tt_path_tables.proofs.periods.first_left.Goals as goal
use Rattle.tt_path_tables.proofs.periods.first_left.Goals.{in-Some, in_default}

pub loop-course-preserved : goal.loop-course-preserved
loop-course-preserved c =
    let a = c.args in
    let p = a.basis.now.instance.now in
    let free = a.basis.now.free.now.words in
    let g = a.demand.now.pattern.now in
    let ks = a.demand.now.courses.now in
    let i = c.loop-course.course-index in
    let before = is_left_in p free g (take i ks) in
    let here = is_left_in p free g (slice_index_or ks i 0 ∷ []) in
    let after = is_left_in p free g (take (i + 1) ks) in
    let joined = one_more p free g ks i c.loop-course-test.true in
    elim c.match-first_left_to.branch [
      | in-Some w ↦
          subst (λ o. MatchOption o (IsNone after a.from a.to) (λ k. IsFirst after a.from a.to k)) (sym w.first-is)
          (then_first before here after joined a.from a.to c.loop-course.first c.loop-course.invariant w.in-Some.slot
          (subst (λ e. IsFirst here a.from e w.in-Some.slot) c.unwrap_or-end.ensures w.in-Some.ensures))
      | in_default w ↦
          subst (λ o. MatchOption o (IsNone after a.from a.to) (λ k. IsFirst after a.from a.to k)) (sym w.first-is)
          (then_none before here after joined a.from a.to c.loop-course.first c.loop-course.invariant
          (subst (λ e. IsNone here a.from e) c.unwrap_or-end.ensures w.in_default.ensures))
    ]

pub returns-then-end-from : goal.returns-then-end-from
returns-then-end-from c =
    let a = c.args in
    let p = a.basis.now.instance.now in
    let free = a.basis.now.free.now.words in
    let g = a.demand.now.pattern.now in
    let ks = a.demand.now.courses.now in
    ended (is_left_in p free g (take c.loop-course.course-index ks)) (is_left_in p free g ks) a.from a.to c.loop-course.first
    c.loop-course.invariant
    (sym c.unwrap_or-end.ensures ∙ c.if-end-from.true) (all_more p free g ks c.loop-course.course-index a.from)

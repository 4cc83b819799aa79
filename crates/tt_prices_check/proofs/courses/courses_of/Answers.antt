use Rattle.std.proofs.Common.{◌≡◌, ℕ, ◌<◌, Bool, List, [], ◌∷◌, ◌++◌, length, get_or, sym, ap, ◌∙◌, subst, arith}
use Rattle.std.specs.Prelude.{All, filter}
use Rattle.std.proofs.lemmas.List.Elements.{Contains-get_or}
use Rattle.tt_list_laws.specs.Words.{range_below}
use Rattle.tt_list_laws.proofs.Below.{filter_more-passing, filter_more-failing}
use Rattle.tt_list_laws.proofs.Range.{below_member}
use Rattle.tt_groups.proofs.Lists.{member_before}
use Rattle.tt_groups.specs.Prices.{concerns}
use Rattle.tt_groups.specs.Rows.{group_of}
use Rattle.tt_prices_check.proofs.courses.courses_of.Goals as goal
use Rattle.tt_prices_check.proofs.courses.courses_of.Goals.{then-is_concerned+in_ok-push, else-is_concerned}

pub loop-course-preserved : goal.loop-course-preserved
loop-course-preserved c =
    let q = concerns c.args.instance.now (group_of c.args.group.now) in
    let i = c.loop-course.course in
    elim c.if-is_concerned.branch [
      | then-is_concerned+in_ok-push w ↦ ap (λ v. v.items) w.courses-is ∙ w.in_ok-push.ensures.items
          ∙ ap (λ (l : List ℕ). l ++ i ∷ []) c.loop-course.invariant
          ∙ sym (filter_more-passing q i (sym c.is_concerned.ensures ∙ w.if-is_concerned.true))
      | else-is_concerned w ↦ ap (λ v. v.items) w.courses-is ∙ c.loop-course.invariant
          ∙ sym (filter_more-failing q i (sym c.is_concerned.ensures ∙ w.if-is_concerned.false))
    ]

below : (q : ℕ → Bool) (n : ℕ) → All (λ c. c < n) (filter q (range_below n))
below q n k d h = below_member n (get_or (filter q (range_below n)) k d)
    (member_before q (range_below n) (get_or (filter q (range_below n)) k d) (Contains-get_or (filter q (range_below n)) k d h))

pub returns-clause-in_range : goal.returns-clause-in_range
returns-clause-in_range c =
    let p = c.args.instance.now in
    let q = concerns p (group_of c.args.group.now) in
    let end : c.loop-course.course ≡ length p.courses =
    omega (arith, c.loop-course-test.false, c.loop-course.auto.course-end, c.courses-course-end.ensures.value) in
    let is : c.loop-course.courses.items ≡ filter q (range_below (length p.courses)) =
    c.loop-course.invariant ∙ ap (λ n. filter q (range_below n)) end in
    subst (All (λ n. n < length p.courses)) (sym is) (below q (length p.courses))

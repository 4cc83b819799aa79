use Rattle.std.proofs.Common.{◌≡◌, ℕ, ◌<◌, ◌≤◌, ◌^◌, List, length, Some, None, sym, ap, subst, ◌∙◌, arith}
use Rattle.std.specs.Prelude.{slice_index, IfSome}
use Rattle.tt_groups.specs.Limits.{IsWithin}
use Rattle.tt_groups.specs.Rows.{group_of}
use Rattle.tt_prices_check.specs.Inner.Days.{HasDays}
use Rattle.tt_prices_check.specs.Week.{IsLeastPlan}
use Rattle.tt_prices_check.proofs.Timetables.{least_timetable}
use Rattle.tt_prices_check.proofs.Narrow.{concerned-below, is_narrow, few_counted, few_sizes, counted_within, size_range}
use Rattle.tt_prices_check.proofs.Total.{suits_of, least_total, small_total}
use Rattle.tt_prices_check.proofs.group.least_of_group.Goals as goal

pub new-requires-clause-at_most : goal.new-requires-clause-at_most
new-requires-clause-at_most c =
    let p = c.args.instance.now in
    let g = group_of c.args.group.now in
    let narrow = sym c.is_too_wide.ensures ∙ c.if-is_too_wide.false in
    omega (arith, ap length c.in_ok-sizes.ensures.sizes, few_sizes p g c.days.ensures.instance c.requires.in_range narrow)

pub new-requires-clause-own : goal.new-requires-clause-own
new-requires-clause-own c =
    let p = c.args.instance.now in
    let g = group_of c.args.group.now in
    let narrow = sym c.is_too_wide.ensures ∙ c.if-is_too_wide.false in
    omega (
      arith,
      ap length c.in_ok-sizes.ensures.sizes,
      c.in_ok-sizes.ensures.counted,
      counted_within p g c.days.ensures.instance c.requires.in_range narrow,
    )

pub new-requires-clause-narrow : goal.new-requires-clause-narrow
new-requires-clause-narrow c =
    let p = c.args.instance.now in
    let g = group_of c.args.group.now in
    let narrow = sym c.is_too_wide.ensures ∙ c.if-is_too_wide.false in
    omega (arith, c.in_ok-sizes.ensures.counted, few_counted p g c.days.ensures.instance c.requires.in_range narrow)

pub new-requires-clause-positive : goal.new-requires-clause-positive
new-requires-clause-positive c =
    let p = c.args.instance.now in
    let g = group_of c.args.group.now in
    let narrow = sym c.is_too_wide.ensures ∙ c.if-is_too_wide.false in
    subst (λ (l : List ℕ). (j : ℕ) → j < length l → 0 < slice_index l j) (sym c.in_ok-sizes.ensures.sizes)
    (λ j l. (size_range p g c.days.ensures.instance c.requires.in_range narrow j l).0)

pub new-requires-clause-small : goal.new-requires-clause-small
new-requires-clause-small c =
    let p = c.args.instance.now in
    let g = group_of c.args.group.now in
    let narrow = sym c.is_too_wide.ensures ∙ c.if-is_too_wide.false in
    subst (λ (l : List ℕ). (j : ℕ) → j < length l → slice_index l j ≤ 256) (sym c.in_ok-sizes.ensures.sizes)
    (λ j l. (size_range p g c.days.ensures.instance c.requires.in_range narrow j l).1)

pub new-requires-2-clause-narrow : goal.new-requires-2-clause-narrow
new-requires-2-clause-narrow c =
    is_narrow c.args.instance.now (group_of c.args.group.now) c.days.ensures.instance c.requires.in_range
    (sym c.is_too_wide.ensures ∙ c.if-is_too_wide.false)

pub least_week-requires-clause-few : goal.least_week-requires-clause-few
least_week-requires-clause-few c = omega (
  arith,
  c.deref-3.ensures.value,
  ap length c.deref-3.ensures.value,
  c.in_ok-week.ensures.all,
  c.days.ensures.value,
  c.days.ensures.within,
)

pub returns-in-Ok-Some-clause-least : goal.returns-in-Ok-Some-clause-least
returns-in-Ok-Some-clause-least c =
    let p = c.args.instance.now in
    let g = group_of c.args.group.now in
    let scale = c.args.scale in
    let sized = subst (λ o. IfSome o (λ d. (d.sizes.items ≡ c.in_ok-sizes.field-0.sizes.items) ×
    (d.courses ≡ c.in_ok-sizes.field-0.counted)))
    c.in-Some.is c.in_ok-digits.ensures.made in
    let days = subst (λ s. HasDays p s g c.in_ok-week.week.items) c.in-Ok.ensures.scale c.in_ok-week.ensures.each_day in
    let suits = suits_of p scale g (sized.0 ∙ c.in_ok-sizes.ensures.sizes) (sized.1 ∙ c.in_ok-sizes.ensures.counted)
    c.in_ok-week.ensures.all days c.deref-3.ensures.value in
    let least = subst (IsLeastPlan p scale g) c.in-Ok-Some.field-0-is (c.in-Ok-Some.ensures.least p g suits) in
    let small = subst (λ o. IfSome o (IsWithin (2 ^ 57))) c.in-Ok-Some.field-0-is c.in-Ok-Some.ensures.small in
    least_total p scale g c.in-Ok-Some.least c.base_paid.result
    (least_timetable p scale g (concerned-below p g c.days.ensures.instance c.requires.in_range) (Some c.in-Ok-Some.least) least)
    c.base_paid.ensures.value small c.base_paid.ensures.small

pub returns-in-Ok-Some-clause-small : goal.returns-in-Ok-Some-clause-small
returns-in-Ok-Some-clause-small c =
    let small = subst (λ o. IfSome o (IsWithin (2 ^ 57))) c.in-Ok-Some.field-0-is c.in-Ok-Some.ensures.small in
    small_total c.in-Ok-Some.least c.base_paid.result small c.base_paid.ensures.small

pub returns-in-Ok-None-clause-least : goal.returns-in-Ok-None-clause-least
returns-in-Ok-None-clause-least c =
    let p = c.args.instance.now in
    let g = group_of c.args.group.now in
    let scale = c.args.scale in
    let sized = subst (λ o. IfSome o (λ d. (d.sizes.items ≡ c.in_ok-sizes.field-0.sizes.items) ×
    (d.courses ≡ c.in_ok-sizes.field-0.counted)))
    c.in-Some.is c.in_ok-digits.ensures.made in
    let days = subst (λ s. HasDays p s g c.in_ok-week.week.items) c.in-Ok.ensures.scale c.in_ok-week.ensures.each_day in
    let suits = suits_of p scale g (sized.0 ∙ c.in_ok-sizes.ensures.sizes) (sized.1 ∙ c.in_ok-sizes.ensures.counted)
    c.in_ok-week.ensures.all days c.deref-3.ensures.value in
    let least = subst (IsLeastPlan p scale g) c.in-Ok-None.field-0-is (c.in-Ok-None.ensures.least p g suits) in
    least_timetable p scale g (concerned-below p g c.days.ensures.instance c.requires.in_range) None least

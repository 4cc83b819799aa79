use Rattle.std.proofs.Common.{◌≡◌, ℕ, ◌<◌, ◌&&◌, false, All, slice_index_or, sum_by, count_by, subst, sym}
use Rattle.std.specs.Prelude.{◌==◌}
use Rattle.std.specs.List.{list_any}
use Rattle.tt_list_laws.proofs.Counting.{few_counted}
use Rattle.tt_instance.specs.Cells.{is_of}
use Rattle.tt_instance.specs.Courses.{in_curriculum}
use Rattle.tt_rules.specs.Soft.{is_isolated}
use Rattle.tt_rules.specs.Inner.Places.{place_of, is_alone}
use Rattle.tt_rules.proofs.Neighbours.{isolated_counted, members_few}
use Rattle.tt_rules.proofs.compactness.isolated.Goals as goal

pub taught-taught-requires-clause-courses : goal.taught-taught-requires-clause-courses
taught-taught-requires-clause-courses c =
    subst (All (λ a. a < 2048)) (sym c.members-members.ensures.value)
    (members_few c.args.instance.now c.args.curriculum c.days.ensures.instance c.requires.curriculum)

pub alone_of-requires-clause-courses : goal.alone_of-requires-clause-courses
alone_of-requires-clause-courses c =
    subst (All (λ a. a < 2048)) (sym c.members-members.ensures.value)
    (members_few c.args.instance.now c.args.curriculum c.days.ensures.instance c.requires.curriculum)

pub returns-clause-count : goal.returns-clause-count
returns-clause-count c =
    let p = c.args.instance.now in
    let t = c.args.by_course.now.entries in
    isolated_counted p t c.args.curriculum c.taught-taught.result c.alone_of.result c.days.ensures.instance c.requires.curriculum
    c.requires.in_range
    (subst (λ cs. (k : ℕ) → slice_index_or c.taught-taught.result k false ≡ list_any
    (λ a. list_any (λ e. is_of a e && (place_of p e == k)) t) cs) c.members-members.ensures.value c.taught-taught.ensures)
    (subst (λ cs. c.alone_of.result ≡ sum_by (λ a. count_by (λ e. is_of a e && is_alone p c.taught-taught.result e) t) cs)
    c.members-members.ensures.value c.alone_of.ensures.count)

pub returns-clause-at_most : goal.returns-clause-at_most
returns-clause-at_most c =
    let p = c.args.instance.now in
    let t = c.args.by_course.now.entries in
    few_counted (λ e. in_curriculum p c.args.curriculum e.course && is_isolated p t c.args.curriculum e) t c.alone_of.result
    (returns-clause-count c)

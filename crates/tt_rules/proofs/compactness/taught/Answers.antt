use Rattle.std.proofs.Common.{ℕ, ◌&&◌, Bool, ◌||◌, All, get_or, take, subst, sym, ap, ◌∙◌}
use Rattle.std.specs.Prelude.{◌==◌}
use Rattle.std.specs.List.{list_any}
use Rattle.std.proofs.lemmas.List.Folds.{list_any_more}
use Rattle.std.proofs.lemmas.List.Elements.{All-filter}
use Rattle.tt_list_laws.proofs.Filters.{list_any-of_filter}
use Rattle.tt_instance.specs.Cells.{InRange, is_of}
use Rattle.tt_rules.specs.Inner.Places.{place_of}
use Rattle.tt_rules.proofs.compactness.taught.Goals as goal

pub mark_places-requires : goal.mark_places-requires
mark_places-requires c =
    let p = c.args.instance.now in
    subst (All (InRange p)) (sym c.of_course.ensures.group) (All-filter (is_of (get_or c.args.courses.now c.loop-course.course-index 0))
    (InRange p) c.args.by_course.now.entries c.requires.in_range)

pub loop-course-preserved : goal.loop-course-preserved
loop-course-preserved c k =
    let p = c.args.instance.now in
    let t = c.args.by_course.now.entries in
    let cs = c.args.courses.now in
    let i = c.loop-course.course-index in
    let at : ℕ → Bool = λ a. list_any (λ e. is_of a e && (place_of p e == k)) t in
    c.mark_places.ensures k
    ∙ ap (λ b. b || list_any (λ e. place_of p e == k) c.of_course.result) (c.loop-course.invariant k)
    ∙ ap (λ g. list_any at (take i cs) || list_any (λ e. place_of p e == k) g) c.of_course.ensures.group
    ∙ ap (λ b. list_any at (take i cs) || b) (list_any-of_filter (λ e. place_of p e == k) (is_of (get_or cs i 0)) t)
    ∙ sym (list_any_more at cs i 0 c.loop-course-test.true)

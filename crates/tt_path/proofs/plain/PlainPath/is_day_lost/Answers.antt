use Rattle.std.proofs.Common.{◌≡◌, ℕ, ◌-◌, refl, ap, ◌∙◌, rules, tests}
use Rattle.std.specs.List.{list_all, range_with_len}
use Rattle.std.proofs.lemmas.Iterator.{YieldsList-from_range}
use Rattle.std.proofs.lemmas.Iterator.Search.{all_from_yields_List}
use Rattle.tt_instance.specs.Cells.{slot, cell}
use Rattle.tt_path.specs.Inner.Nested.{numbers_given, is_lost}
use Rattle.tt_path.specs.Inner.Paths.{Facts}
use Rattle.tt_path.proofs.plain.PlainPath.is_day_lost.Goals as goal

pub returns : goal.returns
returns c =
    let p = c.args.self.now.problem in
    let a = c.args in
    let test = λ (s : ℕ). is_lost p a.self.now.facts a.cell (cell a.course a.room (slot a.day s)) in
    let span = c.numbers_given-periods.result in
    let given : range_with_len span.start (span.end - span.start) ≡ numbers_given a.pattern.now.period p.periods =
    c.numbers_given-periods.ensures ∙ ap (numbers_given a.pattern.now.period)
    (c.periods.ensures.value ∙ ap (λ (v : Facts). v.problem.periods) c.self.view_is) in
    all_from_yields_List test _ _ c.all.result c.all.ensures.ran
    (YieldsList-from_range span.start span.end (span.end - span.start) refl refl) (λ x b q k. search (rules, tests))
    ∙ ap (list_all test) given

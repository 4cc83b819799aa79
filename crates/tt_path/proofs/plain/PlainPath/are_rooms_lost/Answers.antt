use Rattle.std.proofs.Common.{◌≡◌, ◌-◌, length, refl, ap, ◌∙◌, rules, tests}
use Rattle.std.specs.List.{list_all, range_with_len}
use Rattle.std.proofs.lemmas.Iterator.{YieldsList-from_range}
use Rattle.std.proofs.lemmas.Iterator.Search.{all_from_yields_List}
use Rattle.tt_path.specs.Inner.Nested.{numbers_given, is_room_lost}
use Rattle.tt_path.specs.Inner.Paths.{Facts}
use Rattle.tt_path.proofs.plain.PlainPath.are_rooms_lost.Goals as goal

pub returns : goal.returns
returns c =
    let a = c.args in
    let p = a.self.now.problem in
    let test = is_room_lost p a.self.now.facts a.pattern.now a.cell a.course in
    let span = c.numbers_given-rooms.result in
    let given : range_with_len span.start (span.end - span.start) ≡ numbers_given a.pattern.now.room (length p.rooms) =
    c.numbers_given-rooms.ensures ∙ ap (numbers_given a.pattern.now.room)
    (c.rooms.ensures.value ∙ ap (λ (v : Facts). length v.problem.rooms) c.self.view_is) in
    all_from_yields_List test _ _ c.all.result c.all.ensures.ran
    (YieldsList-from_range span.start span.end (span.end - span.start) refl refl) (λ x b q k. search (rules, tests))
    ∙ ap (list_all test) given

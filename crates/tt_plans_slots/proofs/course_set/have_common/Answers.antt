use Rattle.std.proofs.Common.{get_or, refl, sym, ◌∙◌}
use Rattle.std.specs.List.{list_any}
use Rattle.std.proofs.lemmas.Bool.{not-false, not-true}
use Rattle.tt_bits.specs.Inner.Bits.{has_bit, bits}
use Rattle.tt_plans_slots.proofs.Words.{apart_all, apart_more, common_at}
use Rattle.tt_plans_slots.proofs.course_set.have_common.Goals as goal

pub returns-then-not-is_empty-clause-some : goal.returns-then-not-is_empty-clause-some
returns-then-not-is_empty-clause-some c = λ _.
    common_at c.args.words.now c.args.others.now c.loop-place.place (get_or c.args.words.now c.loop-place.place 0) c.word_at.result
    c.both.result refl c.word_at.ensures c.both.ensures
    (not-false (list_any (has_bit c.both.result) bits) (sym c.is_empty.ensures ∙ c.if-not-is_empty.true))

pub loop-place-preserved : goal.loop-place-preserved
loop-place-preserved c =
    apart_more c.args.words.now c.args.others.now c.loop-place.place (get_or c.args.words.now c.loop-place.place 0) c.word_at.result
    c.both.result refl c.word_at.ensures c.both.ensures
    (not-true (list_any (has_bit c.both.result) bits) (sym c.is_empty.ensures ∙ c.if-not-is_empty.false)) c.loop-place.invariant

pub returns-clause-none : goal.returns-clause-none
returns-clause-none c = λ _ k e.
    apart_all c.args.words.now c.args.others.now c.loop-place.place c.loop-place-test.false c.loop-place.invariant k e

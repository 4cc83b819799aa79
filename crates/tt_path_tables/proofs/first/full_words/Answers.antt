use Rattle.std.proofs.Common.{◌≡◌, ◌+◌, ◌-◌, ◌*◌, ◌%◌, length, sym, ap, ◌∙◌, subst, arith}
use Rattle.std.specs.Prelude.{nat_lt}
use Rattle.tt_path_tables.specs.Inner.Words.{width, size}
use Rattle.tt_path_tables.specs.Inner.First.{AreFull}
use Rattle.tt_path_tables.proofs.FirstTable.{full_more}
use Rattle.tt_path_tables.proofs.Grid.{most_words, words_bounded}
use Rattle.std.proofs.Math.Facts.{Fits-below}
use Rattle.tt_path_tables.proofs.first.full_words.Goals as goal

pub loop-index-preserved : goal.loop-index-preserved
loop-index-preserved c =
    let p = c.args.instance.now in
    let n = c.loop-index.index in
    let m = n % c.width-width.result * 64 in
    let at : m ≡ n % width p * 64 = ap (λ w. n % w * 64) c.width-width.ensures.value in
    subst (λ l. AreFull p l (n + 1)) (sym c.in_ok-push.ensures.items)
    (full_more p c.loop-index.words.items n c.below.result m c.loop-index.invariant at
    (λ k h. c.below.ensures k h ∙ ap (nat_lt k) (c.saturating_sub.ensures ∙ ap (λ r. r - m) c.rooms-rooms.ensures.value)))

pub returns : goal.returns
returns c =
    let p = c.args.instance.now in
    let end : c.loop-index.index ≡ c.courses.result * (c.days.result + 1) * (c.periods.result + 1) * c.width-width.result = omega arith in
    let whole : c.courses.result * (c.days.result + 1) * (c.periods.result + 1) * c.width-width.result ≡ size p =
    ap (λ n. n * (c.days.result + 1) * (c.periods.result + 1) * c.width-width.result) c.courses.ensures.value
    ∙ ap (λ n. length p.courses * (n + 1) * (c.periods.result + 1) * c.width-width.result) c.days.ensures.value
    ∙ ap (λ n. length p.courses * (p.days + 1) * (n + 1) * c.width-width.result) c.periods.ensures.value
    ∙ ap (λ n. length p.courses * (p.days + 1) * (p.periods + 1) * n) c.width-width.ensures.value in
    subst (AreFull p c.loop-index.words.items) (end ∙ whole) c.loop-index.invariant

pub overflow_mul-index-end : goal.overflow_mul-index-end
overflow_mul-index-end c =
    Fits-below {n = most_words} tt (words_bounded c.courses.result c.days.result c.periods.result c.width-width.result
    c.courses.ensures.within
    c.days.ensures.within c.periods.ensures.within c.width-width.ensures.within)

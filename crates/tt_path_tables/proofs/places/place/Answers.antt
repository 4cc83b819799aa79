use Rattle.std.proofs.Common.{◌+◌, ◌*◌, ◌<◌, ◌≤◌, length, arith}
use Rattle.std.proofs.Math.Facts.{Fits-below}
use Rattle.tt_path_tables.specs.Inner.Words.{width, place, size}
use Rattle.tt_path_tables.proofs.Grid.{word_within, most_words, words_bounded}
use Rattle.tt_path_tables.proofs.places.place.Goals as goal

pub returns-clause-within : goal.returns-clause-within
returns-clause-within c =
    let a = c.args in
    let p = a.instance.now in
    let w = word_within p (record { course = a.course; day = a.slot.day; period = a.slot.period; block = a.block; number = 0 })
    (record {
      course = c.requires.course;
      day = c.requires.slot.day;
      period = c.requires.slot.period;
      block = c.requires.block;
      number = omega arith;
    }) in
    rw (c.days-days.ensures.value, c.periods-periods.ensures.value, c.width-width.ensures.value) w

pub overflow_mul-result : goal.overflow_mul-result
overflow_mul-result c =
    let a = c.args in
    let p = a.instance.now in
    let w = word_within p (record { course = a.course; day = a.slot.day; period = a.slot.period; block = a.block; number = 0 })
    (record {
      course = c.requires.course;
      day = c.requires.slot.day;
      period = c.requires.slot.period;
      block = c.requires.block;
      number = omega arith;
    }) in
    let most = words_bounded (length p.courses) p.days p.periods (width p)
    (omega (arith, c.courses-courses.ensures.value, c.courses-courses.ensures.within))
    (omega (arith, c.days-days.ensures.value, c.days-days.ensures.within))
    (omega (arith, c.periods-periods.ensures.value, c.periods-periods.ensures.within))
    (omega (arith, c.width-width.ensures.value, c.width-width.ensures.within)) in
    rw (c.days-days.ensures.value, c.periods-periods.ensures.value, c.width-width.ensures.value)
    (Fits-below {n = most_words} tt (omega (arith, w, most)))

pub overflow_add-result : goal.overflow_add-result
overflow_add-result c =
    let a = c.args in
    let p = a.instance.now in
    let w = word_within p (record { course = a.course; day = a.slot.day; period = a.slot.period; block = a.block; number = 0 })
    (record {
      course = c.requires.course;
      day = c.requires.slot.day;
      period = c.requires.slot.period;
      block = c.requires.block;
      number = omega arith;
    }) in
    let most = words_bounded (length p.courses) p.days p.periods (width p)
    (omega (arith, c.courses-courses.ensures.value, c.courses-courses.ensures.within))
    (omega (arith, c.days-days.ensures.value, c.days-days.ensures.within))
    (omega (arith, c.periods-periods.ensures.value, c.periods-periods.ensures.within))
    (omega (arith, c.width-width.ensures.value, c.width-width.ensures.within)) in
    rw (c.days-days.ensures.value, c.periods-periods.ensures.value, c.width-width.ensures.value)
    (Fits-below {n = most_words} tt (omega (arith, w, most)))

-- The place of words: each bit of a table has a word.
use Rattle.std.proofs.Common.{◌≡◌, ℕ, zero, suc, ◌+◌, ◌*◌, ◌/◌, ◌%◌, ◌<◌, ◌≤◌, length, arith, sym, ap, ◌∙◌}
use Rattle.std.proofs.Math.Nat.{mul-le-mul}
use Rattle.std.proofs.lemmas.Nat.{mod-mul-add, div-mul-add}
use Rattle.tt_instance.specs.Problem.{Problem}
use Rattle.tt_instance.specs.Cells.{InRange}
use Rattle.tt_instance.specs.declared.cell.Cell.{Cell}
use Rattle.tt_instance.specs.declared.limit.TheConstants.{MAX_COURSES, MAX_DAYS, MAX_PERIODS}
use Rattle.tt_path_tables.specs.Inner.Words.{Bit, IsBit, width, place, size, bit_of, bit_on}
use Rattle.tt_list_laws.proofs.Grid.{within_row}

row_within : (a w h : ℕ) → a < h → a * w + w ≤ h * w
row_within a zero h ha = omega arith
row_within a (suc w) h ha = let l = within_row a (suc w) w h ha (omega arith) in omega (arith, l)

pub within_slots : (c d s n days periods : ℕ) → c < n → d < days → s < periods → (c * days + d) * periods + s < n * days * periods
within_slots c d s n days periods hc hd hs = within_row (c * days + d) periods s (n * days) (within_row c days d n hc hd) hs

-- the most words of cells that a table has
abbrev pub most_words : ℕ
most_words = MAX_COURSES * (MAX_DAYS + 1) * (MAX_PERIODS + 1) * 8

pub words_bounded : (c d s w : ℕ) → c ≤ MAX_COURSES → d ≤ MAX_DAYS → s ≤ MAX_PERIODS → w ≤ 8 → c * (d + 1) * (s + 1) * w ≤ most_words
words_bounded c d s w hc hd hs hw =
    let days : d + 1 ≤ MAX_DAYS + 1 = omega (arith, hd) in
    let periods : s + 1 ≤ MAX_PERIODS + 1 = omega (arith, hs) in
    mul-le-mul (mul-le-mul (mul-le-mul hc days) periods) hw

module _ (p : Problem) where
  pub place_within : (c d s : ℕ) → c < length p.courses → d < (p.days + 1) → s < (p.periods + 1) → place p c d s + width p ≤ size p
  place_within c d s hc hd hs = row_within ((c * (p.days + 1) + d) * (p.periods + 1) + s) (width p)
      (length p.courses * (p.days + 1) * (p.periods + 1))
      (within_slots c d s (length p.courses) (p.days + 1) (p.periods + 1) hc hd hs)

  pub word_within : (b : Bit) → IsBit p b → place p b.course b.day b.period + b.block < size p
  word_within b h = within_row ((b.course * (p.days + 1) + b.day) * (p.periods + 1) + b.period) (width p) b.block
      (length p.courses * (p.days + 1) * (p.periods + 1))
      (within_slots b.course b.day b.period (length p.courses) (p.days + 1) (p.periods + 1) h.course h.day h.period) h.block

  -- a word belongs to only one course, period and block
  pub same_word : (b e : Bit) → IsBit p b → IsBit p e → place p b.course b.day b.period + b.block ≡ place p e.course e.day e.period
      + e.block → (b.course ≡ e.course) × (b.day ≡ e.day) × (b.period ≡ e.period) × (b.block ≡ e.block)
  same_word b e hb he q =
      let w = width p in
      let i = (b.course * (p.days + 1) + b.day) * (p.periods + 1) + b.period in
      let j = (e.course * (p.days + 1) + e.day) * (p.periods + 1) + e.period in
      let z : b.block ≡ e.block = sym (mod-mul-add i w b.block hb.block) ∙ ap (λ n. n % w) q ∙ mod-mul-add j w e.block he.block in
      let k : i ≡ j = sym (div-mul-add i w b.block hb.block) ∙ ap (λ n. n / w) q ∙ div-mul-add j w e.block he.block in
      let a : b.period ≡ e.period = sym (mod-mul-add (b.course * (p.days + 1) + b.day) (p.periods + 1) b.period hb.period)
      ∙ ap (λ n. n % (p.periods + 1)) k ∙ mod-mul-add (e.course * (p.days + 1) + e.day) (p.periods + 1) e.period he.period in
      let m : b.course * (p.days + 1) + b.day ≡ e.course * (p.days + 1) + e.day =
      sym (div-mul-add (b.course * (p.days + 1) + b.day) (p.periods + 1) b.period hb.period) ∙ ap (λ n. n / (p.periods + 1)) k
      ∙ div-mul-add (e.course * (p.days + 1) + e.day) (p.periods + 1) e.period he.period in
      let x : b.day ≡ e.day = sym (mod-mul-add b.course (p.days + 1) b.day hb.day) ∙ ap (λ n. n % (p.days + 1)) m
      ∙ mod-mul-add e.course (p.days + 1) e.day he.day in
      let y : b.course ≡ e.course = sym (div-mul-add b.course (p.days + 1) b.day hb.day) ∙ ap (λ n. n / (p.days + 1)) m
      ∙ div-mul-add e.course (p.days + 1) e.day he.day in
      (y, x, a, z)

  -- a bit of a cell's course and room, also for several periods
  pub wide_within : (x : Cell) → InRange p x → (d s : ℕ) → d < p.days + 1 → s < p.periods + 1 → IsBit p (bit_on d s x)
  wide_within x h d s hd hs = record {
    course = h.course;
    day = hd;
    period = hs;
    block = (let l = h.room in omega arith);
    number = omega arith;
  }

  pub bit_within : (x : Cell) → InRange p x → IsBit p (bit_of x)
  bit_within x h = record {
    course = h.course;
    day = (let l = h.day in omega arith);
    period = (let l = h.period in omega arith);
    block = (let l = h.room in omega arith);
    number = omega arith;
  }

  pub block_within : (r : ℕ) → r < length p.rooms → r / 64 < width p
  block_within r h = omega arith

pub room_back : (r : ℕ) → r / 64 * 64 + r % 64 ≡ r
room_back r = omega arith

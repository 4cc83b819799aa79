-- The places of words.
use Rattle.std.proofs.Common.{◌≡◌, ℕ, ◌+◌, ◌*◌, ◌/◌, ◌%◌, ◌<◌, ◌≤◌, false, ◌&&◌, length, arith, sym, ap, ◌∙◌, eq-eqb, ne_eqb}
use Rattle.std.specs.Prelude.{◌==◌}
use Rattle.std.proofs.lemmas.Bool.{eqb-true, and_from, and_parts}
use Rattle.std.proofs.lemmas.Nat.{mod-mul-add, div-mul-add}
use Rattle.tt_list_laws.proofs.Truth.{same_truth}
use Rattle.tt_instance.specs.Problem.{Problem}
use Rattle.tt_path.specs.Facts.{IsWho}
use Rattle.tt_path.specs.declared.facts.Who.{Who}
use Rattle.tt_path.specs.declared.facts.Who.TheVariants.{Course, Curriculum}
use Rattle.tt_path_pins.specs.Inner.Tables.{row_of, rows, day_place, days_size, width}
use Rattle.tt_list_laws.proofs.Grid.{within_row}

pub row_within : (p : Problem) (who : Who) → IsWho p who → row_of p who < rows p
row_within p (Course c) h = omega arith
row_within p (Curriculum q) h = omega arith

pub day_within : (p : Problem) (row d : ℕ) → row < rows p → d < p.days → day_place p row d < days_size p
day_within p row d h k = within_row row p.days d (rows p) h k

-- a place belongs to only one row and day
pub same_day : (row d row0 d0 days : ℕ) → d < days → d0 < days → (row * days + d == row0 * days + d0) ≡ ((row == row0) && (d0 == d))
same_day row d row0 d0 days h k = same_truth (row * days + d == row0 * days + d0) ((row == row0) && (d0 == d))
    (λ e. let q = eqb-true (row * days + d) (row0 * days + d0) e in
    and_from (row == row0) (d0 == d)
    (eq-eqb row row0 (sym (div-mul-add row days d h) ∙ ap (λ n. n / days) q ∙ div-mul-add row0 days d0 k))
    (eq-eqb d0 d (sym (mod-mul-add row0 days d0 k) ∙ ap (λ n. n % days) (sym q) ∙ mod-mul-add row days d h)))
    (λ e. let b = and_parts (row == row0) (d0 == d) e in
    eq-eqb (row * days + d) (row0 * days + d0) (ap (λ n. n * days + d) (eqb-true row row0 b.0)
    ∙ ap (λ n. row0 * days + n) (sym (eqb-true d0 d b.1))))

pub room_within : (p : Problem) (r : ℕ) → r < length p.rooms → r / 64 < width p
room_within p r h = omega arith

pub block_within : (p : Problem) (b : ℕ) → b * 64 < length p.rooms → b < width p
block_within p b h = omega arith

-- a place and a number belong to only one course and room
pub same_room : (base w c r c0 r0 : ℕ) → r / 64 < w → r0 / 64 < w
    → ((base + (c * w + r / 64) == base + (c0 * w + r0 / 64)) && (r % 64 == r0 % 64)) ≡ ((c0 == c) && (r0 == r))
same_room base w c r c0 r0 h k = same_truth ((base + (c * w + r / 64) == base + (c0 * w + r0 / 64)) && (r % 64 == r0 % 64))
    ((c0 == c) && (r0 == r))
    (λ e. let b = and_parts (base + (c * w + r / 64) == base + (c0 * w + r0 / 64)) (r % 64 == r0 % 64) e in
    let whole = eqb-true (base + (c * w + r / 64)) (base + (c0 * w + r0 / 64)) b.0 in
    let q : c * w + r / 64 ≡ c0 * w + r0 / 64 = cancel base (c * w + r / 64) (c0 * w + r0 / 64) whole in
    let m = eqb-true (r % 64) (r0 % 64) b.1 in
    let n : r / 64 ≡ r0 / 64 = sym (mod-mul-add c w (r / 64) h) ∙ ap (λ x. x % w) q ∙ mod-mul-add c0 w (r0 / 64) k in
    and_from (c0 == c) (r0 == r)
    (eq-eqb c0 c (sym (div-mul-add c0 w (r0 / 64) k) ∙ ap (λ x. x / w) (sym q) ∙ div-mul-add c w (r / 64) h))
    (eq-eqb r0 r (omega arith)))
    (λ e. let b = and_parts (c0 == c) (r0 == r) e in
    let ec = sym (eqb-true c0 c b.0) in
    let er = sym (eqb-true r0 r b.1) in
    and_from (base + (c * w + r / 64) == base + (c0 * w + r0 / 64)) (r % 64 == r0 % 64)
    (eq-eqb (base + (c * w + r / 64)) (base + (c0 * w + r0 / 64)) (ap (λ n. base + (n * w + r / 64)) ec
    ∙ ap (λ n. base + (c0 * w + n / 64)) er))
    (eq-eqb (r % 64) (r0 % 64) (ap (λ n. n % 64) er)))
  where
    cancel : (a b c : ℕ) → a + b ≡ a + c → b ≡ c
    cancel a b c e = omega arith

-- the words of days and the words of rooms have different places
pub apart : (a b base : ℕ) → a < base → base ≤ b → (a == b) ≡ false
apart a b base h k = ne_eqb a b (λ e. omega arith)

pub apart_back : (a b base : ℕ) → a < base → base ≤ b → (b == a) ≡ false
apart_back a b base h k = ne_eqb b a (λ e. omega arith)

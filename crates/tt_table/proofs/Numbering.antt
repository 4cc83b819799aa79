-- The periods of the week by their numbers, day by day.
use Rattle.std.proofs.Common.{◌≡◌, ℕ, ◌+◌, ◌*◌, ◌<◌, ◌≤◌, Bool, ◌&&◌, cond, List, [], ◌∷◌, refl, sym, ap, ◌∙◌, arith, inl, inr, eq-eqb, ne_eqb, mul-le-mul_right}
use Rattle.std.specs.Prelude.{◌==◌, All, filter}
use Rattle.std.proofs.lemmas.Bool.{cases_eq}
use Rattle.std.proofs.lemmas.Nat.{same_from_place}
use Rattle.std.proofs.lemmas.List.Elements.{All-head, All-tail}
use Rattle.tt_instance.specs.Problem.{Problem}
use Rattle.tt_instance.specs.Cells.{InRange, slot, is_at}
use Rattle.tt_instance.specs.declared.cell.Cell.{Cell}
use Rattle.tt_table.specs.Groups.{in_group}
use Rattle.tt_table.specs.declared.groups.GroupBy.TheVariants.{Period}

-- the number of a period is below the number of periods of the week
pub number_below_week : (day period days periods : ℕ) → day < days → period < periods → day * periods + period < days * periods
number_below_week day period days periods h k =
    let l : day + 1 ≤ days = omega arith in
    let m : (day + 1) * periods ≤ days * periods = mul-le-mul_right periods l in
    omega arith

-- two numbers of periods are the same exactly if day and period are
pub same_number : (a b d s periods : ℕ) → b < periods → s < periods → (a * periods + b == d * periods + s) ≡ ((a == d) && (b == s))
same_number a b d s w h k = elim (cases_eq a d) [
  | inl e ↦ elim (cases_eq b s) [
    | inl f ↦ eq-eqb (a * w + b) (d * w + s) (ap (λ z. z * w + b) e ∙ ap (λ z. d * w + z) f)
        ∙ sym (ap (λ z. z && (b == s)) (eq-eqb a d e) ∙ eq-eqb b s f)
    | inr f ↦ ne_eqb (a * w + b) (d * w + s) (λ z. f (same_from_place a b d s w h k z).1)
        ∙ sym (ap (λ z. z && (b == s)) (eq-eqb a d e) ∙ ne_eqb b s f)
  ]
  | inr e ↦ ne_eqb (a * w + b) (d * w + s) (λ z. e (same_from_place a b d s w h k z).0) ∙ sym (ap (λ z. z && (b == s)) (ne_eqb a d e))
]

-- filters by tests that agree on each element are the same
filter-same_at : {X : Type 0} (P : X → Type 0) (p q : X → Bool) (xs : List X) → All P xs → ((x : X) → P x → p x ≡ q x)
    → filter p xs ≡ filter q xs
filter-same_at P p q [] all same = refl
filter-same_at P p q (x ∷ xs) all same =
    ap (λ b. cond b (x ∷ filter p xs) (filter p xs)) (same x (All-head P x xs all))
    ∙ ap (λ rest. cond (q x) (x ∷ rest) rest) (filter-same_at P p q xs (All-tail P x xs all) same)

-- the group of a period's number consists of the entries in the period
pub group_at : (p : Problem) (t : List Cell) (d s : ℕ) → All (InRange p) t → s < p.periods
    → filter (in_group (Period p.periods) (d * p.periods + s)) t ≡ filter (is_at (slot d s)) t
group_at p t d s ok h =
    filter-same_at (InRange p) (in_group (Period p.periods) (d * p.periods + s)) (is_at (slot d s)) t ok
    (λ e k. same_number e.day e.period d s p.periods k.period h)

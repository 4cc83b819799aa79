-- The tables that the fold begins with.
use Rattle.std.proofs.Common.{◌≡◌, ℕ, ◌<◌, List, get_or-set_other, get_or-set_same, replicate, set, sym, subst, ◌∙◌, arith, inl, inr}
use Rattle.std.specs.Prelude.{slice_index}
use Rattle.std.proofs.lemmas.Bool.{cases_lt}
use Rattle.std.proofs.lemmas.List.{get_or-replicate, get_or_past, length-replicate}
use Rattle.tt_instance.specs.Problem.{Problem}
use Rattle.tt_groups.specs.Prices.{PricedGroup}
use Rattle.tt_prices_check.specs.declared.fold.TheConstants.{NOT_REACHED}
use Rattle.tt_prices_check.proofs.Reaching.{IsReachedPlace, reached_first}

-- no place of a new table is reached
pub new_none : (n k : ℕ) → k < n → slice_index (replicate n NOT_REACHED) k < NOT_REACHED → ⊥
new_none n k h less = absurd (omega (arith, less, get_or-replicate {A = ℕ} n k NOT_REACHED 0 h))

pub new_low : (n k : ℕ) → slice_index (replicate n NOT_REACHED) k < NOT_REACHED → slice_index (replicate n NOT_REACHED) k ≡ 0
new_low n k less = elim (cases_lt k n) [
  | inl inside ↦ absurd (new_none n k inside less)
  | inr past ↦ get_or_past (replicate n NOT_REACHED) k 0 (omega (arith, past, length-replicate {A = ℕ} n NOT_REACHED))
]

-- the first table, in which 0 is paid at the first place
abbrev pub first_table : ℕ → List ℕ
first_table n = set (replicate n NOT_REACHED) 0 0

pub first_there : (n : ℕ) → 0 < n → slice_index (first_table n) 0 ≡ 0
first_there n h = get_or-set_same (replicate n NOT_REACHED) 0 0 0 (omega (arith, h, length-replicate {A = ℕ} n NOT_REACHED))

other : (n k : ℕ) → 0 < k → slice_index (first_table n) k ≡ slice_index (replicate n NOT_REACHED) k
other n k h = get_or-set_other {A = ℕ} (replicate n NOT_REACHED) 0 k 0 0 (λ z. absurd (omega (arith, h, z)))

pub first_low : (n k : ℕ) → 0 < n → slice_index (first_table n) k < NOT_REACHED → slice_index (first_table n) k ≡ 0
first_low n k some less = elim (cases_lt 0 k) [
  | inl later ↦ other n k later ∙ new_low n k (omega (arith, less, other n k later))
  | inr first ↦
      let z : 0 ≡ k = omega (arith, first) in
      subst (λ i. slice_index (first_table n) i ≡ 0) z (first_there n some)
]

-- only the first place is reached
first_at : (n k : ℕ) → k < n → slice_index (first_table n) k < NOT_REACHED → 0 ≡ k
first_at n k inside less = elim (cases_lt 0 k) [
  | inl later ↦ absurd (new_none n k inside (omega (arith, less, other n k later)))
  | inr first ↦ omega (arith, first)
]

pub first_reached : (p : Problem) (scale : ℕ) (g : PricedGroup) (n k : ℕ) → k < n → slice_index (first_table n) k < NOT_REACHED
    → IsReachedPlace p scale g 0 k (slice_index (first_table n) k)
first_reached p scale g n k inside less =
    let some : 0 < n = omega (arith, inside) in
    subst (λ v. IsReachedPlace p scale g 0 k v) (sym (first_low n k some less))
    (subst (λ i. IsReachedPlace p scale g 0 i 0) (first_at n k inside less) (reached_first p scale g))

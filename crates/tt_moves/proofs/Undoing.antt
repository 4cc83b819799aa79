-- A step and the step that undoes it.
use Rattle.std.proofs.Common.{◌≡◌, ℕ, ◌<◌, ◌≢◌, List, length, set, sym, ap, ◌∙◌, subst, arith, inl, inr}
use Rattle.std.proofs.lemmas.Bool.{cases_eq}
use Rattle.std.proofs.lemmas.List.{length-set, get_or-set_same, get_or-set_other, set_comm, set-set, set-get_or}
use Rattle.tt_instance.specs.Problem.{Problem}
use Rattle.tt_instance.specs.declared.cell.Cell.{Cell}
use Rattle.tt_moves.specs.Steps.{no_entry, entry_at, in_place_of, stepped, CanStep}
use Rattle.tt_moves.specs.declared.step.Step.{Step}
use Rattle.tt_moves.specs.declared.step.Step.TheVariants.{Move, Swap}

moved_back : (t : List Cell) (i r d s : ℕ) (x : Cell) → i < length t → x ≡ entry_at t i → stepped (stepped t (Move i r d s))
    (Move i x.room x.day x.period) ≡ t
moved_back t i r d s x h is =
    let y : Cell = record { course = (entry_at t i).course; room = r; day = d; period = s } in
    ap (λ z. set (set t i y) i (in_place_of z x)) (get_or-set_same t i y no_entry h)
    ∙ set-set t i y (in_place_of y x)
    ∙ ap (λ z. set t i (in_place_of (entry_at t i) z)) is
    ∙ set-get_or t i no_entry

-- the entries at two places, set again to their old values
set_again : (t : List Cell) (i j : ℕ) (y z : Cell) → i ≢ j → set (set (set (set t i y) j z) i (entry_at t i)) j (entry_at t j) ≡ t
set_again t i j y z apart =
    ap (λ l. set l j (entry_at t j)) (set_comm (set t i y) j i z (entry_at t i) (λ e. apart (sym e))
    ∙ ap (λ l. set l j z) (set-set t i y (entry_at t i) ∙ set-get_or t i no_entry))
    ∙ set-set t j z (entry_at t j) ∙ set-get_or t j no_entry

pub with_itself : (t : List Cell) (i : ℕ) → stepped t (Swap i i) ≡ t
with_itself t i = set-set t i (entry_at t i) (entry_at t i) ∙ set-get_or t i no_entry

swapped_back : (t : List Cell) (i j : ℕ) → i < length t → j < length t → stepped (stepped t (Swap i j)) (Swap i j) ≡ t
swapped_back t i j h k = elim (cases_eq i j) [
  | inl e ↦ subst (λ n. stepped (stepped t (Swap i n)) (Swap i n) ≡ t) e (with_itself (stepped t (Swap i i)) i ∙ with_itself t i)
  | inr apart ↦
      let there = in_place_of (entry_at t i) (entry_at t j) in
      let here = in_place_of (entry_at t j) (entry_at t i) in
      let l = length-set t i there in
      let s = set (set t i there) j here in
      let first : entry_at s i ≡ there = get_or-set_other (set t i there) j i here no_entry apart ∙ get_or-set_same t i there no_entry h in
      let second : entry_at s j ≡ here = get_or-set_same (set t i there) j here no_entry (omega arith) in
      ap (λ z. set (set s i (in_place_of z (entry_at s j))) j (in_place_of (entry_at s j) z)) first
      ∙ ap (λ z. set (set s i (in_place_of there z)) j (in_place_of z there)) second
      ∙ set_again t i j there here apart
]

module _ (p : Problem) (t : List Cell) (step : Step) (can : CanStep p t step) where
  pub move_back : (i r d s : ℕ) (x : Cell) → step ≡ Move i r d s → x ≡ entry_at t i
      → stepped (stepped t step) (Move i x.room x.day x.period) ≡ t
  move_back i r d s x e is =
      let able = subst (CanStep p t) e can in
      ap (λ z. stepped (stepped t z) (Move i x.room x.day x.period)) e ∙ moved_back t i r d s x able.0 is

  pub swap_back : (i j : ℕ) → step ≡ Swap i j → stepped (stepped t step) (Swap i j) ≡ t
  swap_back i j e =
      let able = subst (CanStep p t) e can in
      ap (λ z. stepped (stepped t z) (Swap i j)) e ∙ swapped_back t i j able.0 able.1

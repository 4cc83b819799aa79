-- A timetable that is at least as good, as the search stores it.
use Rattle.std.proofs.Common.{◌≡◌, ℕ, ◌<◌, ◌≤◌, List, ◌∙◌, inl, inr, arith}
use Rattle.std.specs.Prelude.{◌⊎◌}
use Rattle.tt_instance.specs.Problem.{Problem}
use Rattle.tt_instance.specs.declared.cell.Cell.{Cell}
use Rattle.tt_rules.specs.Score.{IsFeasible, hard, cost}
use Rattle.tt_search.specs.Improved.{IsNoWorse}

-- the first of two pairs is lower
abbrev Lower : ℕ → ℕ → ℕ → ℕ → Type 0
Lower a b c d = (a < c) ⊎ ((a ≡ c) × (b < d))

not_lower : (a b c d e f : ℕ) → (Lower a b c d → ⊥) → (Lower c d e f → ⊥) → Lower a b e f → ⊥
not_lower a b c d e f h i (inl less) =
    let n : a < c → ⊥ = λ z. h (inl z) in
    i (inl (omega arith))
not_lower a b c d e f h i (inr pair) =
    let n : a < c → ⊥ = λ z. h (inl z) in
    let m : c < e → ⊥ = λ z. i (inl z) in
    let first : a ≡ c = omega arith in
    let k : b < d → ⊥ = λ z. h (inr (first, z)) in
    i (inr (omega arith, omega arith))

pub no_worse_twice : (p : Problem) (t u v : List Cell) → IsNoWorse p t u → IsNoWorse p u v → IsNoWorse p t v
no_worse_twice p t u v a b = record {
  timetable = b.timetable;
  courses = b.courses ∙ a.courses;
  no_higher = not_lower (hard p t) (cost p t) (hard p u) (cost p u) (hard p v) (cost p v) a.no_higher b.no_higher;
}

-- a timetable at least as good as a feasible one is feasible and costs at most as much
pub record IsAsGood (p : Problem) (t u : List Cell) : Type 0 where
  pub feasible : IsFeasible p u
  pub cost : cost p u ≤ cost p t

pub as_good : (p : Problem) (t u : List Cell) → IsNoWorse p t u → IsFeasible p t → IsAsGood p t u
as_good p t u w f =
    let n : hard p t < hard p u → ⊥ = λ z. w.no_higher (inl z) in
    let zero : hard p u ≡ 0 = omega (arith, f.lectures, f.conflicts, f.availability, f.room_occupancy) in
    let same : hard p t ≡ hard p u = omega (arith, f.lectures, f.conflicts, f.availability, f.room_occupancy) in
    let k : cost p t < cost p u → ⊥ = λ z. w.no_higher (inr (same, z)) in
    record {
      feasible = record {
        timetable = w.timetable;
        lectures = omega (arith, zero);
        conflicts = omega (arith, zero);
        availability = omega (arith, zero);
        room_occupancy = omega (arith, zero);
      };
      cost = omega arith;
    }

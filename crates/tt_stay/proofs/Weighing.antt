-- Weights that are lower than others.
use Rattle.std.proofs.Common.{◌≡◌, ℕ, ◌*◌, ◌<◌, ◌≤◌, List, inl, inr, sym, ap, ◌∙◌, arith}
use Rattle.std.proofs.Math.Nat.{mul-le-mul_left}
use Rattle.tt_instance.specs.Problem.{Problem}
use Rattle.tt_instance.specs.declared.cell.Cell.{Cell}
use Rattle.tt_rules.specs.Score.{hard, cost}
use Rattle.tt_stay.specs.Staying.{IsWeight, IsLower}
use Rattle.tt_stay.specs.declared.stay.Stay.{Stay}
use Rattle.tt_stay.specs.declared.weight.Weight.{Weight}

-- a timetable has one weight
same_total : (p : Problem) (old t : List Cell) (s : Stay) (v w : Weight) → IsWeight p old t v → IsWeight p old t w → (u : Weight)
    → IsLower s v u
    → IsLower s w u
same_total p old t s v w hv hw u low =
    let a : v.hard ≡ w.hard = hv.hard_is ∙ sym hw.hard_is in
    let b : v.cost ≡ w.cost = hv.cost_is ∙ sym hw.cost_is in
    let c : v.moved ≡ w.moved = hv.moved_is ∙ sym hw.moved_is in
    let d : v.rooms ≡ w.rooms = hv.rooms_is ∙ sym hw.rooms_is in
    rw (← a, ← b, ← c, ← d) low

-- no weight is lower than itself, and none of two is lower than the other
never_both : (s : Stay) (v w : Weight) → IsLower s v w → IsLower s w v → ⊥
never_both s v w (inl a) (inl b) = omega (arith, a, b)
never_both s v w (inl a) (inr b) = omega (arith, a, b.0)
never_both s v w (inr a) (inl b) = omega (arith, a.0, b)
never_both s v w (inr a) (inr b) = omega (arith, a.1, b.1)

pub kept_first : (p : Problem) (old t : List Cell) (s : Stay) (w : Weight) → IsWeight p old t w → (v : Weight) → IsWeight p old t v
    → IsLower s v w → ⊥
kept_first p old t s w hw v hv low = let self = same_total p old t s v w hv hw w low in never_both s w w self self

pub took_lower : (p : Problem) (old t : List Cell) (s : Stay) (first found : Weight) → IsWeight p old t first → IsLower s found first
    → (v : Weight) → IsWeight p old t v → IsLower s v found → ⊥
took_lower p old t s first found hf lower v hv low =
    never_both s first found (same_total p old t s v first hv hf found low) lower

-- the price of all lectures fits
pub price_small : (each count : ℕ) → each < 4294967296 → count < 18446744073709551616 → each * count < 79228162514264337593543950336
price_small each count h k =
    let most : each ≤ 4294967295 = omega arith in
    omega (arith, mul-le-mul_left count most, k)

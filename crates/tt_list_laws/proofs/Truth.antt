-- Truth values that tests are made of.
use Rattle.std.proofs.Common.{◌≡◌, Bool, true, false, not, ◌&&◌, ◌||◌, refl, sym, ap}

-- two truth values that follow from each other are the same
pub same_truth : (a b : Bool) → (a ≡ true → b ≡ true) → (b ≡ true → a ≡ true) → a ≡ b
same_truth true b f g = sym (f refl)
same_truth false true f g = g refl
same_truth false false f g = refl

-- the conclusion of a tested implication whose condition passes
pub wanted : (f k : Bool) → (not f || k) ≡ true → f ≡ true → k ≡ true
wanted true k e h = e
wanted false k e h = cc

pub not_wanted : (f k : Bool) → (f ≡ true → k ≡ true) → (not f || k) ≡ true
not_wanted true k h = h refl
not_wanted false k h = refl

-- a value stays the same if nothing is removed
pub still_there : (b g : Bool) → g ≡ false → b ≡ (b && not g)
still_there true g e = sym (ap not e)
still_there false g e = refl

-- removing in two steps is the same as removing in one
pub taken_twice : (b g h : Bool) → ((b && not g) && not h) ≡ (b && not (g || h))
taken_twice true true h = refl
taken_twice true false h = refl
taken_twice false g h = refl

-- one condition of two that both have
pub and-over : (a b z : Bool) → ((a && z) || (b && z)) ≡ ((a || b) && z)
and-over true true true = refl
and-over true true false = refl
and-over true false true = refl
and-over true false false = refl
and-over false b z = refl

pub not-not : (b : Bool) → not (not b) ≡ b
not-not true = refl
not-not false = refl

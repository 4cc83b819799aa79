-- The first targets that have an owner.
use Rattle.std.specs.Prelude.{◌≡◌, ℕ, ◌+◌, ◌*◌, List, ◌∷◌, ◌++◌, map, None}
use Rattle.tt_leaf_rules.specs.Claims.{Target}
use Rattle.tt_leaf_rules.specs.Inner.NumberSet.{place}
use Rattle.tt_proof_sum.specs.Faults.{IsCalled}
use Rattle.tt_proof_sum.specs.Tables.{State, owner, first_owner}
use Rattle.tt_proof_sum.specs.declared.claimed.ClaimedTarget.{ClaimedTarget}

-- The number is the first of these whose place of this kind has an owner, and o is that owner.
pub record FirstOwned (a : State) (kind : ℕ) (numbers : List ℕ) (number o : ℕ) : Type 0 where
  pub before : List ℕ
  pub more : List ℕ
  pub split : numbers ≡ before ++ number ∷ more
  pub free : first_owner a (map (λ n. 4 * n + kind) before) ≡ None
  pub owned : owner a (4 * number + kind) ≡ o
  pub some : ¬ (o ≡ 0)

-- The first of the targets that has an owner is called so, and o is its owner.
pub record FirstTarget (a : State) (targets : List Target) (name : ClaimedTarget) (o : ℕ) : Type 0 where
  pub before : List Target
  pub target : Target
  pub more : List Target
  pub split : targets ≡ before ++ target ∷ more
  pub free : first_owner a (map place before) ≡ None
  pub owned : owner a (place target) ≡ o
  pub some : ¬ (o ≡ 0)
  pub called : IsCalled target name

-- A tree bounds the part of the cost that belongs to its targets.
use Rattle.std.proofs.Common.{◌≡◌, ℕ, ◌≤◌, Bool, true, false, not, List, refl, sym, ◌∙◌, arith, inl, inr}
use Rattle.std.specs.Prelude.{sum_by}
use Rattle.std.specs.List.{list_any, list_all}
use Rattle.std.proofs.lemmas.List.Elements.{All-push}
use Rattle.std.proofs.lemmas.Bool.{cases_Bool, and_parts}
use Rattle.tt_list_laws.specs.Words.{each_two}
use Rattle.tt_list_laws.proofs.Sums.{sum_by-le, sum_by-of_flat_map, each_from_list_all}
use Rattle.tt_list_laws.proofs.Members.{at_member}
use Rattle.tt_list_laws.proofs.Below.{all_pass}
use Rattle.tt_list_laws.proofs.Apart.{distinct_sum}
use Rattle.std.proofs.lemmas.List.Folds.{list_all-append}
use Rattle.tt_instance.specs.Problem.{Problem}
use Rattle.tt_instance.specs.declared.cell.Cell.{Cell}
use Rattle.tt_rules.specs.Score.{IsFeasible, cost}
use Rattle.tt_path.specs.Facts.{matches, Holds, Fits}
use Rattle.tt_path.specs.declared.facts.Fact.{Fact}
use Rattle.tt_leaf_rules.specs.Bounds.{Respects}
use Rattle.tt_leaf_rules.specs.Claims.{Target, part, targets_of, value_of, claimed}
use Rattle.tt_leaf_rules.specs.Leaves.{IsRight}
use Rattle.tt_leaf_rules.specs.Tests.{same_target}
use Rattle.tt_leaf.specs.declared.leaf.Bound.{Bound}
use Rattle.tt_leaf.specs.declared.leaf.Bound.TheVariants.{AtLeast, Nothing}
use Rattle.tt_leaf.specs.declared.leaf.Leaf.{Leaf}
use Rattle.tt_leaf.specs.declared.leaf.Leaf.TheVariants.{Empty, Many, Clique, Slots, Cost}
use Rattle.tt_leaf_rules.proofs.Rightness.{targets_once}
use Rattle.tt_leaf_rules.proofs.Soundness.{leaf_sound}
use Rattle.tt_leaf_rules.proofs.Totals.{same_target-true, same_target-itself, each_claim_sound, parts_of_cost, target_there}
use Rattle.tt_proof_read.specs.Trees.{Tree, Tip, Fork, with_fact}
use Rattle.tt_proof_check.specs.Derives.{Derives}
use Rattle.tt_proof_sum.specs.Sums.{claimed_in, claimed_by, is_among, are_among, cost_over, every_target}

-- each two targets differ
abbrev pub are_different : List Target → Bool
are_different ys = each_two (λ a b. not (same_target a b)) ys

module _ (p : Problem) (t : List Cell) (ok : IsFeasible p t) where
  -- n is an upper bound for the parts of any distinct targets that pass the test
  abbrev pub IsMost : ℕ → (Target → Bool) → Type 0
  IsMost n test = (ys : List Target) → are_different ys ≡ true → list_all test ys ≡ true → sum_by (part p t) ys ≤ n

  module _ (n : ℕ) (test : Target → Bool) (most : IsMost n test) where
    leaf_by : (path : List Fact) → Fits p t path → (b : Bound) (leaf : Leaf) → list_all test (claimed_in leaf) ≡ true
        → IsRight p path b leaf → Respects b n
    leaf_by path fits b (Empty g) in_test e = absurd (leaf_sound p t ok path fits Nothing (Empty g) e)
    leaf_by path fits b (Many c) in_test e = absurd (leaf_sound p t ok path fits Nothing (Many c) e)
    leaf_by path fits b (Clique cs) in_test e = absurd (leaf_sound p t ok path fits Nothing (Clique cs) e)
    leaf_by path fits b (Slots cs) in_test e = absurd (leaf_sound p t ok path fits Nothing (Slots cs) e)
    leaf_by path fits Nothing (Cost claims) in_test e = absurd e
    leaf_by path fits (AtLeast b) (Cost claims) in_test e =
        let k = e.2 in
        let once = targets_once claims e.0 in
        let values = sum_by-le (value_of p path) (λ c. sum_by (part p t) (targets_of c)) claims
        (each_claim_sound p t ok path fits claims once e.1) in
        let joined = sum_by-of_flat_map (part p t) targets_of claims in
        omega (arith, values, joined, most (claimed claims) once in_test)

    pub tree_by : (b : Bound) (path : List Fact) (tree : Tree) → list_all test (claimed_by tree) ≡ true → Derives p b path tree
        → Fits p t path → Respects b n
    tree_by b path (Tip leaf) in_test d fits = leaf_by path fits b leaf in_test d
    tree_by b path (Fork g first second) in_test d fits =
        let k = and_parts (list_all test (claimed_by first)) (list_all test (claimed_by second))
        (sym (list_all-append test (claimed_by first) (claimed_by second)) ∙ in_test) in
        elim (cases_Bool (list_any (matches p g) t)) [
          | inl h ↦ tree_by b (with_fact path g true) first k.0 d.0
              (All-push (Holds p t) path (record { pattern = g; holds = true }) fits h)
          | inr h ↦ tree_by b (with_fact path g false) second k.1 d.1
              (All-push (Holds p t) path (record { pattern = g; holds = false }) fits h)
        ]

  -- the cost over a list of targets is an upper bound for the parts of any distinct targets in it
  pub most_over : (targets : List Target) → IsMost (cost_over p t targets) (is_among targets)
  most_over targets ys apart there =
      distinct_sum same_target same_target-true same_target-itself (part p t) ys targets apart
      (λ y m. inr (at_member (λ x. is_among targets x ≡ true) ys y (each_from_list_all (is_among targets) ys there) m))

  pub tree_over : (b : Bound) (path : List Fact) (tree : Tree) (targets : List Target) → are_among targets (claimed_by tree) ≡ true
      → Derives p b path tree → Fits p t path → Respects b (cost_over p t targets)
  tree_over b path tree targets there d fits = tree_by (cost_over p t targets) (is_among targets)
      (most_over targets) b path tree there d fits

  -- the cost over all targets is an upper bound for the parts of any distinct targets
  most_all : IsMost (cost_over p t (every_target p)) (λ y. true)
  most_all ys apart there = distinct_sum same_target same_target-true same_target-itself (part p t) ys (every_target p) apart
      (λ y m. target_there p t ok y)

  pub tree_over_all : (b : Bound) (path : List Fact) (tree : Tree) → Derives p b path tree → Fits p t path
      → Respects b (cost_over p t (every_target p))
  tree_over_all b path tree d fits = tree_by (cost_over p t (every_target p)) (λ y. true) most_all b path tree
      (all_pass (λ y. true) (claimed_by tree) (λ y. refl)) d fits

  pub over_all : cost_over p t (every_target p) ≤ cost p t
  over_all = parts_of_cost p t ok

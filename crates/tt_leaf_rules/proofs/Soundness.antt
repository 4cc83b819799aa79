-- The conclusion of a right leaf holds for every feasible timetable that fits its path.
use Rattle.std.proofs.Common.{List, arith}
use Rattle.tt_instance.specs.Problem.{Problem}
use Rattle.tt_rules.specs.Score.{IsFeasible, cost}
use Rattle.tt_path.specs.Facts.{Fits}
use Rattle.tt_leaf_rules.specs.Leaves.{IsRight}
use Rattle.tt_leaf_rules.specs.Bounds.{Respects}
use Rattle.tt_instance.specs.declared.cell.Cell.{Cell}
use Rattle.tt_path.specs.declared.facts.Fact.{Fact}
use Rattle.tt_leaf.specs.declared.leaf.Bound.{Bound}
use Rattle.tt_leaf.specs.declared.leaf.Bound.TheVariants.{AtLeast, Nothing}
use Rattle.tt_leaf.specs.declared.leaf.Leaf.{Leaf}
use Rattle.tt_leaf.specs.declared.leaf.Leaf.TheVariants.{Empty, Many, Clique, Slots, Cost}
use Rattle.tt_leaf_rules.proofs.Rightness.{courses_distinct, targets_once}
use Rattle.tt_leaf_rules.proofs.Contradictions.{empty_sound, many_sound, clique_sound, slots_sound}
use Rattle.tt_leaf_rules.proofs.Totals.{claims_sound}

module _ (p : Problem) (t : List Cell) (ok : IsFeasible p t) where
  pub leaf_sound : (path : List Fact) → Fits p t path → (b : Bound) (leaf : Leaf) → IsRight p path b leaf → Respects b (cost p t)
  leaf_sound path fits b (Empty g) right = absurd (empty_sound p t ok path fits g right.0 right.1)
  leaf_sound path fits b (Many c) right = absurd (many_sound p t ok path fits c right)
  leaf_sound path fits b (Clique cs) right = absurd (clique_sound p t ok path fits cs right.1 right.2)
  leaf_sound path fits b (Slots cs) right = absurd (slots_sound p t ok path fits cs (courses_distinct cs right.0) right.1)
  leaf_sound path fits Nothing (Cost claims) right = absurd right
  leaf_sound path fits (AtLeast b) (Cost claims) right =
      let k = right.2 in
      omega (arith, claims_sound p t ok path fits claims (targets_once claims right.0) right.1)

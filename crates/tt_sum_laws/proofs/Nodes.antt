-- Which node of a tree, or which target of groups with prices, is the first that an earlier file claims.
use Rattle.std.proofs.Common.{◌≡◌, ℕ, ◌+◌, true, not, List, [], ◌∷◌, ◌++◌, length, Option, Some, None, refl, sym, ap, ◌∙◌, arith}
use Rattle.std.specs.List.{list_all}
use Rattle.std.specs.Option.{option_or}
use Rattle.std.proofs.lemmas.Bool.{and_from, and_parts}
use Rattle.tt_instance.specs.Problem.{Problem}
use Rattle.tt_instance.specs.Limits.{IsInstance}
use Rattle.tt_path.specs.declared.facts.Fact.{Fact}
use Rattle.tt_leaf_rules.specs.Claims.{Target}
use Rattle.tt_proof_check.proofs.Texts.{spelled_once}
use Rattle.tt_proof_read.specs.Trees.{Tree, preorder}
use Rattle.tt_proof_read.specs.declared.node.Node.{Node}
use Rattle.tt_proof_sum.specs.Faults.{IsClaimedElsewhere, IsTargetClaimedElsewhere}
use Rattle.tt_proof_sum.specs.GroupsFaults.{is_unclaimed}
use Rattle.tt_proof_sum.specs.Sums.{is_among, are_apart, Part, PricesFile, claims_of, AreApart}
use Rattle.tt_proof_sum.specs.Tables.{claims_at}
use Rattle.tt_proof_sum.specs.declared.claimed.ClaimedTarget.{ClaimedTarget}
use Rattle.tt_proof_sum.specs.declared.fault.FileFault.TheVariants.{ClaimedElsewhere, TargetClaimedElsewhere}
use Rattle.tt_proof_sum.proofs.Owners.{both_all}
use Rattle.tt_proof_sum.proofs.SpelledOnce.{same_part}
use Rattle.tt_sum_laws.proofs.Targets.{called_once, first_at, first_at-none, first_of, name_of, who-elsewhere}

-- ---- targets that no part claims

apart_unclaimed : (parts : List Part) (ys : List Target) → list_all (λ k. are_apart (claims_of k) ys) parts ≡ true
    → list_all (is_unclaimed parts []) ys ≡ true
apart_unclaimed parts [] h = refl
apart_unclaimed parts (y ∷ ys) h =
    let both = both_all (λ k. not (is_among (claims_of k) y)) (λ k. are_apart (claims_of k) ys) parts h in
    and_from (is_unclaimed parts [] y) (list_all (is_unclaimed parts []) ys) both.0 (apart_unclaimed parts ys both.1)

-- ---- the nodes of a tree

abbrev at_number : ℕ → Option (Target × Option ℕ) → Option (ℕ × (Target × Option ℕ))
at_number n None = None
at_number n (Some w) = Some (n, w)

-- the number of the first of these nodes that claims a target which one of the parts claims, counted from n, and what it claims
abbrev first_node : ℕ → List Part → List Node → Option (ℕ × (Target × Option ℕ))
first_node n parts [] = None
first_node n parts (x ∷ xs) = option_or (at_number n (first_at parts [] (claims_at x))) (first_node (n + 1) parts xs)

nodes_at : (parts : List Part) (n : ℕ) (before : List Node) (node : Node) (more : List Node) (w : Target × Option ℕ)
    → list_all (λ x. list_all (λ k. are_apart (claims_of k) (claims_at x)) parts) before ≡ true
    → first_at parts [] (claims_at node) ≡ Some w → first_node n parts (before ++ node ∷ more) ≡ Some (n + length before, w)
nodes_at parts n [] node more w h is =
    let count : n ≡ n + 0 = omega arith in
    ap (λ (v : Option (Target × Option ℕ)). option_or (at_number n v) (first_node (n + 1) parts more)) is
    ∙ ap (λ (i : ℕ). Some (i, w)) count
nodes_at parts n (x ∷ xs) node more w h is =
    let both = and_parts (list_all (λ k. are_apart (claims_of k) (claims_at x)) parts)
    (list_all (λ z. list_all (λ k. are_apart (claims_of k) (claims_at z)) parts) xs) h in
    let none = first_at-none parts [] (claims_at x) (apart_unclaimed parts (claims_at x) both.0) in
    let count : (n + 1) + length xs ≡ n + length (x ∷ xs) = omega arith in
    ap (λ (v : Option (Target × Option ℕ)). option_or (at_number n v) (first_node (n + 1) parts (xs ++ node ∷ more))) none
    ∙ nodes_at parts (n + 1) xs node more w both.1 is ∙ ap (λ (i : ℕ). Some (i, w)) count

module _ (p : Problem) (root : List Fact) (is : IsInstance p) (parts : List Part) (bytes : List ℕ) (apart : AreApart parts) where
  node_of : (i e : ℕ) → (h : IsClaimedElsewhere p root parts bytes i e)
      → first_node 0 parts (preorder h.part.tree) ≡ Some (i, (h.claimed.target, Some e))
  node_of i e h =
      let y = h.claimed.target in
      let found = first_of parts [] (claims_at h.node) _ h.claimed (Some e) (who-elsewhere parts [] e y apart refl h.claimed.is) in
      let count : 0 + length h.before ≡ i = omega (arith, h.place) in
      ap (first_node 0 parts) h.nodes ∙ nodes_at parts 0 h.before h.node h.more (y, Some e) h.first found
      ∙ ap (λ (n : ℕ). Some (n, (y, Some e))) count

  -- the first node that claims a target of an earlier file, and this file
  pub one_node : (i e j d : ℕ) → IsClaimedElsewhere p root parts bytes i e → IsClaimedElsewhere p root parts bytes j d
      → ClaimedElsewhere i e ≡ ClaimedElsewhere j d
  one_node i e j d h k =
      let trees = (spelled_once p is bytes h.part.version k.part.version h.part.bound k.part.bound h.part.tree k.part.tree
      h.is.spelled k.is.spelled).1 in
      let same = sym (node_of i e h) ∙ ap (λ (t : Tree). first_node 0 parts (preorder t)) trees ∙ node_of j d k in
      let pair : (i, (h.claimed.target, Some e)) ≡ (j, (k.claimed.target, Some d)) = cc in
      let some : Some e ≡ Some d = ap (λ (w : ℕ × (Target × Option ℕ)). w.1.1) pair in
      let owner : e ≡ d = cc in
      ap (λ (n : ℕ). ClaimedElsewhere n e) (ap (λ (w : ℕ × (Target × Option ℕ)). w.0) pair) ∙ ap (λ (n : ℕ). ClaimedElsewhere j n) owner

  -- the first target of groups with prices that an earlier file claims, and this file
  pub one_target : (a b : ClaimedTarget) (e d : ℕ) → IsTargetClaimedElsewhere p parts bytes a e
      → IsTargetClaimedElsewhere p parts bytes b d → TargetClaimedElsewhere a e ≡ TargetClaimedElsewhere b d
  one_target a b e d h k =
      let first = first_of parts [] _ _ h.first (Some e) (who-elsewhere parts [] e h.first.target apart refl h.first.is.1) in
      let second = first_of parts [] _ _ k.first (Some d) (who-elsewhere parts [] d k.first.target apart refl k.first.is.1) in
      let files = same_part p root is bytes (PricesFile h.part) (PricesFile k.part) h.is k.is in
      let same = sym first ∙ ap (λ (x : Part). first_at parts [] (claims_of x)) files ∙ second in
      let pair : (h.first.target, Some e) ≡ (k.first.target, Some d) = cc in
      let some : Some e ≡ Some d = ap (λ (w : Target × Option ℕ). w.1) pair in
      let owner : e ≡ d = cc in
      let name = called_once h.first.target a h.first.is.0 ∙ ap (λ (w : Target × Option ℕ). name_of w.0) pair
      ∙ sym (called_once k.first.target b k.first.is.0) in
      ap (λ (n : ClaimedTarget). TargetClaimedElsewhere n e) name ∙ ap (λ (n : ℕ). TargetClaimedElsewhere b n) owner

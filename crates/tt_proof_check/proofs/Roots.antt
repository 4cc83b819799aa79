-- Trees with the facts of a root.
use Rattle.std.proofs.Common.{◌≡◌, true, false, List, [], ◌∷◌, ◌++◌, sym, subst, arith, append_assoc, append-nil, length-append}
use Rattle.tt_instance.specs.Problem.{Problem}
use Rattle.tt_path.specs.declared.facts.Fact.{Fact}
use Rattle.tt_proof_read.specs.Trees.{Tree, Tip, Fork, with_fact, IsShallow}
use Rattle.tt_proof_check.specs.Derives.{IsShallowOn}

-- without the facts of the root, the paths are shorter
shallow_behind : (root : List Fact) (tree : Tree) (path : List Fact) → IsShallowOn (root ++ path) tree → IsShallowOn path tree
shallow_behind root (Tip leaf) path h = omega (arith, length-append root path, h)
shallow_behind root (Fork g x y) path h = (
  shallow_behind root x (with_fact path g true)
      (subst (λ (l : List Fact). IsShallowOn l x) (append_assoc root path (record { pattern = g; holds = true } ∷ [])) h.0),
  shallow_behind root y (with_fact path g false)
      (subst (λ (l : List Fact). IsShallowOn l y) (append_assoc root path (record { pattern = g; holds = false } ∷ [])) h.1),
)

-- a tree that is shallow on a root is shallow by itself
pub shallow_alone : (root : List Fact) (tree : Tree) → IsShallowOn root tree → IsShallow tree
shallow_alone root tree h = shallow_behind root tree [] (subst (λ (l : List Fact). IsShallowOn l tree) (sym (append-nil root)) h)

-- what a path says of its problem and its facts, it says of equal ones
pub same_root : (P : Problem → List Fact → Type 0) (p q : Problem) (facts root : List Fact) → p ≡ q → facts ≡ root → P p facts → P q root
same_root P p q facts root e f h = subst (P q) f (subst (λ (x : Problem). P x facts) e h)

-- The places that a path leaves open.
use Rattle.std.specs.Prelude.{◌≡◌, ◌⊎◌, ℕ, false, List, [], ◌∷◌, ◌++◌, take, drop, if◌then◌else◌}
use Rattle.tt_path.specs.declared.facts.Fact.{Fact}
use Rattle.tt_proof_read.specs.Trees.{with_fact}

-- the second child of the split that added the fact, if its first child is on the path
abbrev pub other_side : List Fact → Fact → List (List Fact)
other_side before f = if f.holds then with_fact before f.pattern false ∷ [] else []

-- The second children that are not read yet, of the splits that added these facts to the path before them, the deepest first.
abbrev pub pending_after : List Fact → List Fact → List (List Fact)
pending_after before [] = []
pending_after before (f ∷ fs) = pending_after (before ++ f ∷ []) fs ++ other_side before f

-- the second children that are not read yet, the deepest first, each by its path; the first facts, `root` in number, belong to no split
abbrev pub pending : ℕ → List Fact → List (List Fact)
pending root path = pending_after (take root path) (drop root path)

-- the deepest second child that is not read yet is the next, if there is one; the facts of the root stay
abbrev pub ContinuesWith : ℕ → List Fact → List Fact → Type 0
ContinuesWith root path next =
    (take root next ≡ take root path) × ((pending root path ≡ []) ⊎ (pending root path ≡ next ∷ pending root next))

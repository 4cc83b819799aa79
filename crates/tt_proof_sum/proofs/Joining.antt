-- A proof joins those whose claims the table has, or one of its nodes claims a target that an earlier proof claims.
use Rattle.std.proofs.Common.{◌≡◌, ℕ, ◌+◌, ◌-◌, ◌<◌, suc, Bool, true, false, not, cond, ◌||◌, List, [], ◌∷◌, ◌++◌, map, length, append-nil, Option, Some, None, add-zero, refl, sym, ap, subst, ◌∙◌, arith, inl, inr, lit<, length-append}
use Rattle.std.specs.Prelude.{◌==◌, ◌⊎◌, nat_le, flat_map, slice_get, IsSomeAnd}
use Rattle.std.specs.Option.{option_or}
use Rattle.std.specs.List.{list_all, AllByRecursion}
use Rattle.std.proofs.lemmas.List.{map-append}
use Rattle.std.proofs.lemmas.Grind.{flat_map-append}
use Rattle.std.proofs.lemmas.List.Folds.{list_any-append, list_all-append}
use Rattle.std.proofs.lemmas.List.Elements.{recursion_from_All}
use Rattle.std.proofs.lemmas.Bool.{leb-false, lt-leb, eq-eqb, eqb-true, both_ways, or_cases, and_from, not_from_false}
use Rattle.tt_list_laws.specs.Words.{has_number}
use Rattle.tt_list_laws.proofs.Members.{each_of_append}
use Rattle.tt_list_laws.proofs.Tests.{test_turned}
use Rattle.tt_list_laws.proofs.Twos.{list_all-swap}
use Rattle.tt_instance.specs.Problem.{Problem}
use Rattle.tt_instance.specs.Limits.{IsInstance}
use Rattle.tt_path.specs.declared.facts.Fact.{Fact}
use Rattle.tt_leaf_rules.specs.Claims.{Target, targets_of, claimed}
use Rattle.tt_leaf_rules.specs.Inner.NumberSet.{place, places_of, IsPlaced}
use Rattle.tt_leaf_rules.specs.Tests.{same_target}
use Rattle.tt_leaf.specs.declared.leaf.Bound.{Bound}
use Rattle.tt_leaf.specs.declared.leaf.Claim.{Claim}
use Rattle.tt_leaf.specs.declared.leaf.Leaf.TheVariants.{Empty, Many, Clique, Slots, Cost}
use Rattle.tt_leaf_rules.proofs.Totals.{same_target-true}
use Rattle.tt_leaf_rules.proofs.Meeting.{same_place, each_placed}
use Rattle.tt_proof_read.specs.Spelling.{IsNode}
use Rattle.tt_proof_read.specs.Trees.{Tree, Tip, Fork, preorder}
use Rattle.tt_proof_read.specs.declared.node.Node.{Node}
use Rattle.tt_proof_read.specs.declared.node.Node.TheVariants.{Split, Leaf}
use Rattle.tt_proof_read.proofs.LeafParts.{claim_parts}
use Rattle.tt_proof_check.specs.Visited.{Visited, IsVisitedProof}
use Rattle.tt_proof_sum.specs.declared.table.Clash.{Clash}
use Rattle.tt_proof_sum.specs.Added.{Joins}
use Rattle.tt_proof_sum.specs.Faults.{IsClaimedElsewhere}
use Rattle.tt_proof_sum.specs.Sums.{claimed_in, claimed_by, is_among, are_apart, TreePart, Part, TreeProof, claims_of}
use Rattle.tt_proof_sum.specs.Tables.{State, owner, clash_with, clash_at, first_clash, Claims, at_node, places_in, claims_at, first_claim, begun, IsTableOf}
use Rattle.tt_proof_sum.proofs.SpelledOnce.{split_among}
use Rattle.tt_proof_sum.proofs.Tables.{owner_after, not_none, first_clash-append, places_from, places_all, visited_claims}

-- ---- lists

pub has_place : (ys : List Target) (y : Target) → has_number (map place ys) (place y) ≡ is_among ys y
has_place [] y = refl
has_place (z ∷ zs) y =
    ap (λ b. b || has_number (map place zs) (place y)) (test_turned (place z) (place y) ∙ same_place y z)
    ∙ ap (λ b. same_target y z || b) (has_place zs y)

-- ---- the first proof that claims a place

pub first_claim-push : (n : ℕ) (parts : List Part) (part : Part) (k : ℕ) → 0 < n → first_claim n (parts ++ part ∷ []) k ≡ owner_after
    (first_claim n parts k) (has_number (map place (claims_of part)) k) (n + length parts)
first_claim-push n [] part k some = on (has_number (map place (claims_of part)) k)
  where
    on : (h : Bool) → cond h n 0 ≡ cond h (n + 0) 0
    on true = sym (add-zero n)
    on false = refl
first_claim-push n (x ∷ xs) part k some = on (first_claim-push (n + 1) xs part k (omega arith)) (has_number (map place (claims_of x)) k)
  where
    here : (n + 1) + length xs ≡ n + suc (length xs)
    here = omega arith

    on : first_claim (n + 1) (xs ++ part ∷ []) k ≡ owner_after (first_claim (n + 1) xs k) (has_number (map place (claims_of part)) k)
        ((n + 1) + length xs) → (h : Bool)
        → cond h n (first_claim (n + 1) (xs ++ part ∷ []) k) ≡ owner_after (cond h n (first_claim (n + 1) xs k))
        (has_number (map place (claims_of part)) k) (n + suc (length xs))
    on rest true = rw (not_none n some) refl
    on rest false = rest ∙ ap (owner_after (first_claim (n + 1) xs k) (has_number (map place (claims_of part)) k)) here

pub claim_below : (n : ℕ) (parts : List Part) (k : ℕ) → 0 < n → first_claim n parts k < n + length parts
claim_below n [] k some = omega (arith, some)
claim_below n (x ∷ xs) k some = on (claim_below (n + 1) xs k (omega arith)) (has_number (map place (claims_of x)) k)
  where
    on : first_claim (n + 1) xs k < (n + 1) + length xs → (h : Bool) → cond h n (first_claim (n + 1) xs k) < n + suc (length xs)
    on rest true = omega arith
    on rest false = omega (arith, rest)

-- if a target has no first claim, none of the proofs claims it
pub unclaimed : (n : ℕ) (parts : List Part) (y : Target) → 0 < n → first_claim n parts (place y) ≡ 0
    → list_all (λ k. not (is_among (claims_of k) y)) parts ≡ true
unclaimed n [] y some e = refl
unclaimed n (x ∷ xs) y some e = on (λ z. unclaimed (n + 1) xs y (omega arith) z) (has_number (map place (claims_of x)) (place y)) refl e
  where
    on : (first_claim (n + 1) xs (place y) ≡ 0 → list_all (λ k. not (is_among (claims_of k) y)) xs ≡ true) → (h : Bool)
        → has_number (map place (claims_of x)) (place y) ≡ h → cond h n (first_claim (n + 1) xs (place y)) ≡ 0
        → list_all (λ k. not (is_among (claims_of k) y)) (x ∷ xs) ≡ true
    on rest true b z = absurd (omega (arith, z, some))
    on rest false b z =
        and_from (not (is_among (claims_of x) y)) (list_all (λ k. not (is_among (claims_of k) y)) xs)
        (not_from_false (is_among (claims_of x) y) (sym (has_place (claims_of x) y) ∙ b))
        (rest z)

-- the proof recorded as the first to claim a target claims it
pub claims_it : (n : ℕ) (parts : List Part) (y : Target) (o : ℕ) → first_claim n parts (place y) ≡ o → (o ≡ 0 → ⊥)
    → (j : ℕ) × (o ≡ n + j) × IsSomeAnd (slice_get parts j) (λ k. is_among (claims_of k) y ≡ true)
claims_it n [] y o e some = absurd (some (sym e))
claims_it n (x ∷ xs) y o e some = on (λ z. claims_it (n + 1) xs y o z some) (has_number (map place (claims_of x)) (place y)) refl e
  where
    on : (first_claim (n + 1) xs (place y) ≡ o → (j : ℕ) × (o ≡ (n + 1) + j) × IsSomeAnd (slice_get xs j)
        (λ k. is_among (claims_of k) y ≡ true)) → (h : Bool) → has_number (map place (claims_of x)) (place y) ≡ h
        → cond h n (first_claim (n + 1) xs (place y)) ≡ o → (j : ℕ) × (o ≡ n + j) × IsSomeAnd (slice_get (x ∷ xs) j)
        (λ k. is_among (claims_of k) y ≡ true)
    on rest true b z = (0, omega (arith, z), sym (has_place (claims_of x) y) ∙ b)
    on rest false b z =
        let r = rest z in
        (suc r.0, omega (arith, r.1), r.2)

-- ---- clashes

none_clashes : (past : Bool) (n o q : ℕ) → clash_with past n o q ≡ None → (past ≡ false) × ((o ≡ 0) ⊎ (o ≡ q))
none_clashes true n o q e = absurd cc
none_clashes false n o q e = (refl, on (o == 0) refl (o == q) refl e)
  where
    on : (a : Bool) → (o == 0) ≡ a → (b : Bool) → (o == q) ≡ b → cond {A = Option Clash} (a || b) None
        (Some (record { node = n; earlier = o })) ≡ None → (o ≡ 0) ⊎ (o ≡ q)
    on true x b y h = inl (eqb-true o 0 x)
    on false x true y h = inr (eqb-true o q y)
    on false x false y h = absurd cc

pub record IsClash (n o : ℕ) (c : Clash) : Type 0 where
  pub node : c.node ≡ n
  pub earlier : c.earlier ≡ o
  pub some : o ≡ 0 → ⊥

clash_is : (n o q : ℕ) (c : Clash) → clash_with false n o q ≡ Some c → IsClash n o c
clash_is n o q c e = on (o == 0) refl (o == q) e
  where
    on : (a : Bool) → (o == 0) ≡ a → (b : Bool) → cond {A = Option Clash} (a || b) None (Some (record { node = n; earlier = o }))
        ≡ Some c → IsClash n o c
    on true x b h = absurd cc
    on false x true h = absurd cc
    on false x false h =
        let clash : Clash = record { node = n; earlier = o } in
        let same : clash ≡ c = cc in
        record {
          node = sym (ap (λ (d : Clash). d.node) same);
          earlier = sym (ap (λ (d : Clash). d.earlier) same);
          some = λ z. both_ways (o == 0) x (eq-eqb o 0 z);
        }

or_none : (x y : Option Clash) → option_or x y ≡ None → (x ≡ None) × (y ≡ None)
or_none None y e = (refl, e)
or_none (Some c) y e = absurd cc

-- ---- nodes of a tree

places_claims : (nodes : List Node) → flat_map places_in nodes ≡ map place (flat_map claims_at nodes)
places_claims [] = refl
places_claims (n ∷ ns) = ap (λ l. places_in n ++ l) (places_claims ns) ∙ sym (map-append place (claims_at n) (flat_map claims_at ns))

pub tree_claims : (tree : Tree) → flat_map claims_at (preorder tree) ≡ claimed_by tree
tree_claims (Tip leaf) = append-nil (claimed_in leaf)
tree_claims (Fork g x y) =
    flat_map-append claims_at (preorder x) (preorder y) ∙ ap (λ l. l ++ flat_map claims_at (preorder y)) (tree_claims x)
    ∙ ap (λ l. claimed_by x ++ l) (tree_claims y)

module _ (before_it : State) (parts : List Part) (of : IsTableOf before_it parts) where
  abbrev t : State
  t = begun before_it

  abbrev unclaimed_target : Target → Bool
  unclaimed_target y = list_all (λ k. not (is_among (claims_of k) y)) parts

  free_target : (n : ℕ) (y : Target) → clash_at t n (place y) ≡ None → unclaimed_target y ≡ true
  free_target n y e =
      let h = none_clashes (nat_le 32768 (place y)) n (owner t (place y)) t.proof e in
      let owned = of.owners (place y) (leb-false 32768 (place y) h.0) in
      let below = claim_below 1 parts (place y) (lit< tt) in
      elim h.1 [
        | inl z ↦ unclaimed 1 parts y (lit< tt) (sym owned ∙ z)
        | inr z ↦ absurd (let same : owner t (place y) ≡ before_it.proof + 1 = z in omega (arith, same, owned, below, of.number))
      ]

  none_at : (n : ℕ) (ys : List Target) → first_clash t (at_node n (map place ys)) ≡ None → list_all unclaimed_target ys ≡ true
  none_at n [] e = refl
  none_at n (y ∷ ys) e =
      let h = or_none (clash_at t n (place y)) (first_clash t (at_node n (map place ys))) e in
      and_from (unclaimed_target y) (list_all unclaimed_target ys) (free_target n y h.0) (none_at n ys h.1)

  none_from : (i : ℕ) (nodes : List Node) → first_clash t (places_from i nodes) ≡ None
      → list_all unclaimed_target (flat_map claims_at nodes) ≡ true
  none_from i [] e = refl
  none_from i (n ∷ ns) e =
      let h = or_none (first_clash t (at_node i (places_in n))) (first_clash t (places_from (i + 1) ns))
      (sym (first_clash-append t (at_node i (places_in n)) (places_from (i + 1) ns)) ∙ e) in
      list_all-append unclaimed_target (claims_at n) (flat_map claims_at ns)
      ∙ and_from (list_all unclaimed_target (claims_at n)) (list_all unclaimed_target (flat_map claims_at ns))
      (none_at i (claims_at n) h.0) (none_from (i + 1) ns h.1)

  apart : (ys : List Target) → list_all unclaimed_target ys ≡ true → list_all (λ k. are_apart (claims_of k) ys) parts ≡ true
  apart ys e = list_all-swap (λ k y. not (is_among (claims_of k) y)) parts ys ∙ e

  nodes_apart : (i : ℕ) (nodes : List Node) → first_clash t (places_from i nodes) ≡ None
      → list_all (λ n. list_all (λ k. are_apart (claims_of k) (claims_at n)) parts) nodes ≡ true
  nodes_apart i [] e = refl
  nodes_apart i (n ∷ ns) e =
      let h = or_none (first_clash t (at_node i (places_in n))) (first_clash t (places_from (i + 1) ns))
      (sym (first_clash-append t (at_node i (places_in n)) (places_from (i + 1) ns)) ∙ e) in
      and_from (list_all (λ k. are_apart (claims_of k) (claims_at n)) parts)
      (list_all (λ m. list_all (λ k. are_apart (claims_of k) (claims_at m)) parts) ns)
      (apart (claims_at n) (none_at i (claims_at n) h.0)) (nodes_apart (i + 1) ns h.1)

  -- the node of the first clash
  record Clashes (i : ℕ) (nodes : List Node) (c : Clash) : Type 0 where
    before : List Node
    node : Node
    more : List Node
    split : nodes ≡ before ++ node ∷ more
    none : first_clash t (places_from i before) ≡ None
    some : first_clash t (at_node (i + length before) (places_in node)) ≡ Some c

  find_node : (i : ℕ) (nodes : List Node) (c : Clash) → first_clash t (places_from i nodes) ≡ Some c → Clashes i nodes c
  find_node i [] c e = absurd cc
  find_node i (n ∷ ns) c e = on (λ h. find_node (i + 1) ns c h) (first_clash t (at_node i (places_in n))) refl
      (sym (first_clash-append t (at_node i (places_in n)) (places_from (i + 1) ns)) ∙ e)
    where
      on : (first_clash t (places_from (i + 1) ns) ≡ Some c → Clashes (i + 1) ns c) → (x : Option Clash)
          → first_clash t (at_node i (places_in n)) ≡ x → option_or x (first_clash t (places_from (i + 1) ns)) ≡ Some c
          → Clashes i (n ∷ ns) c
      on rest (Some d) f h = record {
        before = [];
        node = n;
        more = ns;
        split = refl;
        none = refl;
        some = subst (λ m. first_clash t (at_node m (places_in n)) ≡ Some c) (sym (add-zero i)) (f ∙ h);
      }
      on rest None f h =
          let r = rest h in
          let here : (i + 1) + length r.before ≡ i + suc (length r.before) = omega arith in
          record {
            before = n ∷ r.before;
            node = r.node;
            more = r.more;
            split = ap (λ l. n ∷ l) r.split;
            none = first_clash-append t (at_node i (places_in n)) (places_from (i + 1) r.before)
                ∙ ap (λ x. option_or x (first_clash t (places_from (i + 1) r.before))) f ∙ r.none;
            some = subst (λ m. first_clash t (at_node m (places_in r.node)) ≡ Some c) here r.some;
          }

  -- the target of the first clash
  record Meets (n : ℕ) (ys : List Target) (c : Clash) : Type 0 where
    before : List Target
    target : Target
    more : List Target
    split : ys ≡ before ++ target ∷ more
    none : first_clash t (at_node n (map place before)) ≡ None
    some : clash_at t n (place target) ≡ Some c

  find_target : (n : ℕ) (ys : List Target) (c : Clash) → first_clash t (at_node n (map place ys)) ≡ Some c → Meets n ys c
  find_target n [] c e = absurd cc
  find_target n (y ∷ ys) c e = on (λ h. find_target n ys c h) (clash_at t n (place y)) refl e
    where
      on : (first_clash t (at_node n (map place ys)) ≡ Some c → Meets n ys c) → (x : Option Clash) → clash_at t n (place y) ≡ x
          → option_or x (first_clash t (at_node n (map place ys))) ≡ Some c → Meets n (y ∷ ys) c
      on rest (Some d) f h = record { before = []; target = y; more = ys; split = refl; none = refl; some = f ∙ h }
      on rest None f h =
          let r = rest h in
          record {
            before = y ∷ r.before;
            target = r.target;
            more = r.more;
            split = ap (λ l. y ∷ l) r.split;
            none = ap (λ x. option_or x (first_clash t (at_node n (map place r.before)))) f ∙ r.none;
            some = r.some;
          }

  -- ---- the table after a proof
  module _ (b : State) (nodes : List Node) (claims : Claims t (places_from 0 nodes) b) where
    first_is : b.clash ≡ first_clash t (places_from 0 nodes)
    first_is = claims.clash ∙ ap (λ x. option_or x (first_clash t (places_from 0 nodes))) of.free

    table_after : (part : TreePart) → preorder part.tree ≡ nodes → b.clash ≡ None → IsTableOf b (parts ++ TreeProof part ∷ [])
    table_after part same free = record {
      owners = λ k l.
          claims.owners k l ∙ ap (λ o. owner_after o (has_number (map (λ x. x.1) (places_from 0 nodes)) k) t.proof) (of.owners k l)
          ∙ ap (λ ks. owner_after (first_claim 1 parts k) (has_number ks k) t.proof) (places_all 0 nodes ∙ places_claims nodes
          ∙ ap (λ ns. map place (flat_map claims_at ns)) (sym same) ∙ ap (map place) (tree_claims part.tree))
          ∙ ap (owner_after (first_claim 1 parts k) (has_number (map place (claimed_by part.tree)) k)) number
          ∙ sym (first_claim-push 1 parts (TreeProof part) k (lit< tt));
      number = let long = length-append parts (TreeProof part ∷ []) in let newest : b.proof ≡ before_it.proof + 1 = claims.proof in
          omega (arith, newest, of.number, long);
      free = free;
    }
      where
        number : t.proof ≡ 1 + length parts
        number = omega (arith, of.number)

-- ---- places of spelled nodes are within the table

targets_placed : (ys : List Target) (y : Target) → AllByRecursion (λ n. n < 32768) (map place ys) → is_among ys y ≡ true → place y < 32768
targets_placed [] y a e = absurd cc
targets_placed (z ∷ zs) y a e = elim (or_cases (same_target y z) (is_among zs y) e) [
  | inl s ↦ subst (λ (x : Target). place x < 32768) (sym (same_target-true y z s)) a.0
  | inr s ↦ targets_placed zs y a.1 s
]

claims_placed : (claims : List Claim) (y : Target) → AllByRecursion IsPlaced claims → is_among (claimed claims) y ≡ true → place y < 32768
claims_placed [] y a e = absurd cc
claims_placed (c ∷ cs) y a e =
    elim (or_cases (is_among (targets_of c) y) (is_among (claimed cs) y)
    (sym (list_any-append (same_target y) (targets_of c) (claimed cs)) ∙ e)) [
      | inl s ↦ targets_placed (targets_of c) y (recursion_from_All (λ n. n < 32768) (places_of c) a.0) s
      | inr s ↦ claims_placed cs y a.1 s
    ]

node_placed : (p : Problem) → IsInstance p → (v : ℕ) (node : Node) → IsNode p v node → (y : Target) → is_among (claims_at node) y ≡ true
    → place y < 32768
node_placed p is v (Split g) h y e = absurd cc
node_placed p is v (Leaf (Empty g)) h y e = absurd cc
node_placed p is v (Leaf (Many c)) h y e = absurd cc
node_placed p is v (Leaf (Clique cs)) h y e = absurd cc
node_placed p is v (Leaf (Slots cs)) h y e = absurd cc
node_placed p is v (Leaf (Cost claims)) h y e =
    claims_placed claims y
    (recursion_from_All IsPlaced claims
    (each_placed p is.within.courses is.within.curricula claims (λ k c i. (claim_parts p v _ (h k c i)).0))) e

-- -- a proof whose nodes were visited

-- the table has visited the nodes, and its state changed from the first to the second
abbrev pub TableVisited : State → State → List Node → Type 0
TableVisited a b = Visited (λ s j n u. 0 < s.proof → Claims s (at_node j (places_in n)) u) 0 a b

pub newest : (p : Problem) (root : List Fact) (remaining : Option (List ℕ)) (t b : State) → 0 < t.proof → (x : Bound)
    → IsVisitedProof p root remaining (TableVisited t b) x → b.proof ≡ t.proof
newest p root remaining t b some x h = (visited_claims 0 t b (preorder h.tree) some h.visited).proof

module _ (p : Problem) (root : List Fact) (remaining : Option (List ℕ)) (t b : State) (parts : List Part) (of : IsTableOf t parts)
    (x : Bound) (h : IsVisitedProof p root remaining (TableVisited (begun t) b) x) where
  abbrev part : TreePart
  part = record { version = h.version; bound = x; tree = h.tree }

  claims : Claims (begun t) (places_from 0 (preorder h.tree)) b
  claims = let some : 0 < t.proof + 1 = omega arith in visited_claims 0 (begun t) b (preorder h.tree) some h.visited

  pub joins : b.clash ≡ None → Joins p root remaining parts b x
  joins free = record {
    part = TreeProof part;
    is = record { spelled = h.spelled; shallow = h.shallow; derives = h.derives };
    bound = refl;
    apart = apart t parts of (claimed_by h.tree)
        (subst (λ (ys : List Target). list_all (unclaimed_target t parts of) ys ≡ true) (tree_claims h.tree)
        (none_from t parts of 0 (preorder h.tree) (sym (first_is t parts of b (preorder h.tree) claims) ∙ free)));
    table = table_after t parts of b (preorder h.tree) claims part refl free;
  }

  pub claimed_elsewhere : IsInstance p → (bytes : List ℕ) → remaining ≡ Some bytes → (c : Clash) → b.clash ≡ Some c
      → IsClaimedElsewhere p root parts bytes c.node c.earlier
  claimed_elsewhere is bytes known c clash =
      let f = find_node t parts of 0 (preorder h.tree) c (sym (first_is t parts of b (preorder h.tree) claims) ∙ clash) in
      let y = find_target t parts of (0 + length f.before) (claims_at f.node) c f.some in
      let spelled = h.spelled bytes known in
      let node = (each_of_append (IsNode p h.version) f.before (f.node ∷ f.more)
      (subst (AllByRecursion (IsNode p h.version)) f.split
      (recursion_from_All (IsNode p h.version) (preorder h.tree) spelled.each))).1.0 in
      let l = node_placed p is h.version f.node node y.target (split_among (claims_at f.node) y.before y.target y.more y.split) in
      let k = clash_is (0 + length f.before) (owner t (place y.target)) (t.proof + 1) c
      (subst (λ (past : Bool). clash_with past (0 + length f.before) (owner t (place y.target)) (t.proof + 1) ≡ Some c)
      (lt-leb 32768 (place y.target) l) y.some) in
      let e = claims_it 1 parts y.target (owner t (place y.target)) (sym (of.owners (place y.target) l)) k.some in
      let index : e.0 ≡ c.earlier - 1 = omega (arith, e.1, k.earlier) in
      record {
        part = part;
        is = record { spelled = spelled; shallow = h.shallow; derives = h.derives };
        before = f.before;
        node = f.node;
        more = f.more;
        nodes = f.split;
        place = omega (arith, k.node);
        first = nodes_apart t parts of 0 f.before f.none;
        claimed = record {
          before = y.before;
          target = y.target;
          more = y.more;
          split = y.split;
          unclaimed = none_at t parts of (0 + length f.before) y.before y.none;
          is = (
            omega (arith, e.1, k.earlier),
            subst (λ (i : ℕ). IsSomeAnd (slice_get parts i) (λ z. is_among (claims_of z) y.target ≡ true)) index e.2,
          );
        };
      }

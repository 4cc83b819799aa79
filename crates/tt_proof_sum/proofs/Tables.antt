-- Claims taken in turn.
use Rattle.std.proofs.Common.{◌≡◌, ℕ, ◌<◌, Bool, true, false, cond, ◌&&◌, ◌||◌, List, [], ◌∷◌, ◌++◌, take, length, get_or, replicate, zero, suc, ◌+◌, ◌*◌, map, append-nil, Option, Some, None, refl, sym, ap, subst, ◌∙◌, arith}
use Rattle.std.specs.Prelude.{◌==◌, nat_le, slice_index_or, flat_map}
use Rattle.std.specs.Option.{option_or}
use Rattle.std.proofs.lemmas.List.Folds.{list_any-append}
use Rattle.std.proofs.lemmas.Bool.{leb-false, eq-eqb, eqb-true, false_from_ne_true}
use Rattle.std.proofs.lemmas.List.{take_more, map-append}
use Rattle.tt_list_laws.specs.Words.{has_number}
use Rattle.std.proofs.lemmas.Grind.{flat_map-append}
use Rattle.tt_leaf_rules.specs.Claims.{RoomCapacity, targets_of, claimed}
use Rattle.tt_leaf_rules.specs.Inner.NumberSet.{place, places_of}
use Rattle.tt_leaf.specs.declared.leaf.Claim.{Claim}
use Rattle.tt_proof_read.specs.declared.node.Node.{Node}
use Rattle.tt_proof_check.specs.Visited.{Visited}
use Rattle.tt_proof_sum.specs.declared.table.Clash.{Clash}
use Rattle.tt_proof_sum.specs.Tables.{State, owner, clash_with, clash_at, first_clash, Claims, at_node, places_in}

-- the owner of a place after a claim that may have it
abbrev pub owner_after : ℕ → Bool → ℕ → ℕ
owner_after o h q = cond ((o == 0) && h) q o

pub not_none : (q : ℕ) → 0 < q → (q == 0) ≡ false
not_none q some = false_from_ne_true (q == 0) (λ e. let z = eqb-true q 0 e in absurd (omega (arith, z, some)))

twice : (o : ℕ) (h g : Bool) (q : ℕ) → 0 < q → owner_after (owner_after o h q) g q ≡ owner_after o (h || g) q
twice o h g q some = on (o == 0) refl h
  where
    on : (z : Bool) → (o == 0) ≡ z → (h : Bool) → owner_after (owner_after o h q) g q ≡ owner_after o (h || g) q
    on true e true = rw e (rw (not_none q some) refl)
    on true e false = rw e (rw e refl)
    on false e true = rw e (rw e refl)
    on false e false = rw e (rw e refl)

-- a claim neither removes nor adds a clash
still_clash : (past : Bool) (n o r : ℕ) (h : Bool) (q : ℕ) → 0 < q → (past ≡ false → r ≡ owner_after o h q)
    → clash_with past n r q ≡ clash_with past n o q
still_clash true n o r h q some e = refl
still_clash false n o r h q some e = ap (λ x. clash_with false n x q) (e refl) ∙ on (o == 0) refl h
  where
    on : (z : Bool) → (o == 0) ≡ z → (h : Bool) → clash_with false n (owner_after o h q) q ≡ clash_with false n o q
    on true e true = rw e (rw (not_none q some) (rw (eq-eqb q q refl) refl))
    on true e false = rw e (rw e refl)
    on false e true = rw e (rw e refl)
    on false e false = rw e (rw e refl)

first_same : (a b : State) (xs : List (ℕ × ℕ)) → ((n k : ℕ) → clash_at b n k ≡ clash_at a n k) → first_clash b xs ≡ first_clash a xs
first_same a b [] e = refl
first_same a b (x ∷ xs) e = ap (λ c. option_or c (first_clash b xs)) (e x.0 x.1) ∙ ap (option_or (clash_at a x.0 x.1)) (first_same a b xs e)

or_assoc : (x y z : Option Clash) → option_or (option_or x y) z ≡ option_or x (option_or y z)
or_assoc None y z = refl
or_assoc (Some c) y z = refl

or_none : (x : Option Clash) → x ≡ option_or x None
or_none None = refl
or_none (Some c) = refl

pub first_clash-append : (a : State) (xs ys : List (ℕ × ℕ)) → first_clash a (xs ++ ys) ≡ option_or (first_clash a xs) (first_clash a ys)
first_clash-append a [] ys = refl
first_clash-append a (x ∷ xs) ys =
    ap (option_or (clash_at a x.0 x.1)) (first_clash-append a xs ys)
    ∙ sym (or_assoc (clash_at a x.0 x.1) (first_clash a xs) (first_clash a ys))

pub claims_none : (a : State) → Claims a [] a
claims_none a = record { proof = refl; clash = or_none a.clash; owners = λ k h. none (owner a k == 0) a.proof (owner a k) }
  where
    none : (b : Bool) (q o : ℕ) → o ≡ cond (b && false) q o
    none true q o = refl
    none false q o = refl

pub claims_then : (a b c : State) (xs ys : List (ℕ × ℕ)) → 0 < a.proof → Claims a xs b → Claims b ys c → Claims a (xs ++ ys) c
claims_then a b c xs ys some h k = record {
  proof = k.proof ∙ h.proof;
  clash = k.clash ∙ ap (λ x. option_or x (first_clash b ys)) h.clash ∙ ap (option_or (option_or a.clash (first_clash a xs)))
      (first_same a b ys same)
      ∙ or_assoc a.clash (first_clash a xs) (first_clash a ys) ∙ ap (option_or a.clash) (sym (first_clash-append a xs ys));
  owners = λ i l.
      k.owners i l ∙ ap (λ q. owner_after (owner b i) (has_number (map (λ x. x.1) ys) i) q) h.proof
      ∙ ap (λ o. owner_after o (has_number (map (λ x. x.1) ys) i) a.proof) (h.owners i l)
      ∙ twice (owner a i) (has_number (map (λ x. x.1) xs) i) (has_number (map (λ x. x.1) ys) i) a.proof some
      ∙ ap (λ z. owner_after (owner a i) z a.proof)
      (sym (ap (λ ls. has_number ls i) (map-append (λ (x : ℕ × ℕ). x.1) xs ys) ∙ list_any-append (λ m. m == i) (map (λ x. x.1) xs)
      (map (λ x. x.1) ys)));
}
  where
    same : (n i : ℕ) → clash_at b n i ≡ clash_at a n i
    same n i =
        ap (clash_with (nat_le 32768 i) n (owner b i)) h.proof
        ∙ still_clash (nat_le 32768 i) n (owner a i) (owner b i) (has_number (map (λ x. x.1) xs) i) a.proof some
        (λ e. h.owners i (leb-false 32768 i e))

-- no place of a fresh table has an owner
pub free : (z n k : ℕ) → slice_index_or (replicate n z) k z ≡ z
free z zero k = refl
free z (suc n) zero = refl
free z (suc n) (suc k) = free z n k

-- another element of a list
pub claims_more : {X : Type 0} (f : X → List (ℕ × ℕ)) (a b c : State) (xs : List X) (i : ℕ) (d : X) → 0 < a.proof → i < length xs
    → Claims a (flat_map f (take i xs)) b → Claims b (f (get_or xs i d)) c → Claims a (flat_map f (take (i + 1) xs)) c
claims_more f a b c xs i d some l h k =
    let x = get_or xs i d in
    subst (λ ks. Claims a ks c)
    (sym (ap (flat_map f) (take_more xs i d l) ∙ flat_map-append f (take i xs) (x ∷ []) ∙ ap (λ l. flat_map f (take i xs) ++ l)
    (append-nil (f x)))) (claims_then a b c (flat_map f (take i xs)) (f x) some h k)

pub claims_more_is : {X : Type 0} (f : X → List (ℕ × ℕ)) (a b c : State) (xs : List X) (i : ℕ) (x : X) → 0 < a.proof → i < length xs
    → x ≡ get_or xs i x → Claims a (flat_map f (take i xs)) b → Claims b (f x) c → Claims a (flat_map f (take (i + 1) xs)) c
claims_more_is f a b c xs i x some l e h k = claims_more f a b c xs i x some l h (subst (λ y. Claims b (f y) c) e k)

-- the places of claims
pub priced_places : (n : ℕ) (courses : List (ℕ × ℕ)) → flat_map (λ (k : ℕ × ℕ). (n, 4 * k.0) ∷ []) courses ≡ at_node n
    (map place (map (λ k. RoomCapacity k.0) courses))
priced_places n [] = refl
priced_places n (k ∷ ks) = ap (λ l. (n, 4 * k.0) ∷ l) (priced_places n ks)

pub claimed_places : (n : ℕ) (claims : List Claim) → flat_map (λ c. at_node n (places_of c)) claims ≡ at_node n (map place (claimed claims))
claimed_places n [] = refl
claimed_places n (c ∷ cs) =
    ap (λ l. at_node n (places_of c) ++ l) (claimed_places n cs)
    ∙ sym (map-append (λ (k : ℕ). (n, k)) (places_of c) (map place (claimed cs)))
    ∙ ap (at_node n) (sym (map-append place (targets_of c) (claimed cs)))

-- ---- the nodes of a proof

-- the places that nodes claim, each with its node; the first node has the number i
abbrev pub places_from : ℕ → List Node → List (ℕ × ℕ)
places_from i [] = []
places_from i (n ∷ ns) = at_node i (places_in n) ++ places_from (i + 1) ns

-- a table that has visited nodes has the claims of these nodes
pub visited_claims : (i : ℕ) (a b : State) (nodes : List Node) → 0 < a.proof
    → Visited (λ x j n y. 0 < x.proof → Claims x (at_node j (places_in n)) y) i a b nodes → Claims a (places_from i nodes) b
visited_claims i a b [] some h = subst (Claims a []) (sym h) (claims_none a)
visited_claims i a b (n ∷ ns) some h =
    let here = h.1 some in
    claims_then a h.0 b (at_node i (places_in n)) (places_from (i + 1) ns) some here
    (visited_claims (i + 1) h.0 b ns (subst (λ q. 0 < q) (sym here.proof) some) h.2)

pub places_at : (n : ℕ) (ks : List ℕ) → map (λ x. x.1) (at_node n ks) ≡ ks
places_at n [] = refl
places_at n (k ∷ ks) = ap (λ l. k ∷ l) (places_at n ks)

pub places_all : (i : ℕ) (nodes : List Node) → map (λ x. x.1) (places_from i nodes) ≡ flat_map places_in nodes
places_all i [] = refl
places_all i (n ∷ ns) =
    map-append (λ (x : ℕ × ℕ). x.1) (at_node i (places_in n)) (places_from (i + 1) ns)
    ∙ ap (λ l. l ++ map (λ x. x.1) (places_from (i + 1) ns)) (places_at i (places_in n))
    ∙ ap (λ l. places_in n ++ l) (places_all (i + 1) ns)

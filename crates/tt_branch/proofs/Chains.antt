-- Paths by links to the parent, one link at a time.
use Rattle.std.proofs.Common.{◌≡◌, ℕ, zero, suc, ◌+◌, ◌-◌, ◌<◌, ◌≤◌, inl, inr, List, [], ◌∷◌, ◌++◌, Option, Some, None, refl, sym, ap, ◌∙◌, subst, arith, append_assoc, length, get_or}
use Rattle.std.specs.Prelude.{slice_get, reverse}
use Rattle.std.proofs.lemmas.List.{reverse-append}
use Rattle.std.proofs.lemmas.Option.{slice_get-get_or}
use Rattle.tt_list_laws.proofs.Cuts.{at_cases, at_first}
use Rattle.tt_path.specs.declared.facts.Fact.{Fact}
use Rattle.tt_branch.specs.declared.links.Link.{Link}
use Rattle.tt_branch.specs.Inner.Links.{chain, facts_at, path_at, AreLinks}

-- two limits on the number of links followed give the same facts if both are large enough
pub chain-same : (links : List Link) → AreLinks links → (n m at : ℕ) → at ≤ n → at ≤ m → chain n links at ≡ chain m links at
chain-same links ok zero zero at h k = refl
chain-same links ok zero (suc m) zero h k = refl
chain-same links ok zero (suc m) (suc i) h k = absurd (omega arith)
chain-same links ok (suc n) zero zero h k = refl
chain-same links ok (suc n) zero (suc i) h k = absurd (omega arith)
chain-same links ok (suc n) (suc m) zero h k = refl
chain-same links ok (suc n) (suc m) (suc i) h k = by_link (slice_get links i) (ok i) (chain-same links ok n m)
  where
    by_link : (o : Option Link) → ((l : Link) → o ≡ Some l → l.parent ≤ i)
        → ((at : ℕ) → at ≤ n → at ≤ m → chain n links at ≡ chain m links at)
        → (elim o as (λ _. List Fact) [ None ↦ [] | Some l ↦ chain n links l.parent ++ l.fact ∷ [] ]) ≡
        (elim o as (λ _. List Fact) [ None ↦ [] | Some l ↦ chain m links l.parent ++ l.fact ∷ [] ])
    by_link None p f = refl
    by_link (Some l) p f = let q = p l refl in ap (λ z. z ++ l.fact ∷ []) (f l.parent (omega arith) (omega arith))

-- the facts of a node are those of its parent followed by its own
pub facts_at-next : (links : List Link) → AreLinks links → (i : ℕ) (l : Link) → slice_get links i ≡ Some l
    → facts_at links (suc i) ≡ facts_at links l.parent ++ l.fact ∷ []
facts_at-next links ok i l e =
    let q = ok i l e in
    subst (λ o. (elim o as (λ _. List Fact) [ None ↦ [] | Some k ↦ chain i links k.parent ++ k.fact ∷ [] ])
    ≡ facts_at links l.parent ++ l.fact ∷ []) (sym e)
    (ap (λ z. z ++ l.fact ∷ []) (chain-same links ok i l.parent l.parent q (omega arith)))

-- the same with those of the root before them
pub path_at-next : (root : List Fact) (links : List Link) → AreLinks links → (i : ℕ) (l : Link) → slice_get links i ≡ Some l
    → path_at root links (suc i) ≡ path_at root links l.parent ++ l.fact ∷ []
path_at-next root links ok i l e =
    ap (λ z. root ++ z) (facts_at-next links ok i l e) ∙ sym (append_assoc root (facts_at links l.parent) (l.fact ∷ []))

-- one step to the parent, with the facts found so far, the newest first
pub step_back : (links : List Link) → AreLinks links → (place at : ℕ) (l : Link) (found : List Fact) → 0 < at
    → slice_get links (at - 1) ≡ Some l → facts_at links place ≡ facts_at links at ++ reverse found
    → facts_at links place ≡ facts_at links l.parent ++ reverse (found ++ l.fact ∷ [])
step_back links ok place zero l found h e k = absurd (omega arith)
step_back links ok place (suc i) l found h e k =
    let same : suc i - 1 ≡ i = omega arith in
    k ∙ ap (λ z. z ++ reverse found) (facts_at-next links ok i l (subst (λ j. slice_get links j ≡ Some l) same e))
    ∙ append_assoc (facts_at links l.parent) (l.fact ∷ []) (reverse found) ∙ ap (λ z. facts_at links l.parent ++ z)
    (sym (reverse-append found (l.fact ∷ [])))

-- one step to the parent, in the form in which the code reads the link
pub step_at : (links : List Link) → AreLinks links → (place at : ℕ) (found new : List Fact) (d : Link) → 0 < at → at ≤ length links
    → new ≡ found ++ (get_or links (at - 1) d).fact ∷ [] → facts_at links place ≡ facts_at links at ++ reverse found
    → facts_at links place ≡ facts_at links (get_or links (at - 1) d).parent ++ reverse new
step_at links ok place at found new d h l e k =
    step_back links ok place at (get_or links (at - 1) d) found h (slice_get-get_or links (at - 1) d (omega arith)) k
    ∙ ap (λ z. facts_at links (get_or links (at - 1) d).parent ++ reverse z) (sym e)

pub within_at : (links : List Link) → AreLinks links → (at : ℕ) (d : Link) → 0 < at → at ≤ length links
    → (get_or links (at - 1) d).parent ≤ length links
within_at links ok at d h l =
    let k = ok (at - 1) (get_or links (at - 1) d) (slice_get-get_or links (at - 1) d (omega arith)) in
    omega arith

-- -- further links

pub links_more : (links : List Link) (l : Link) → AreLinks links → l.parent ≤ length links → AreLinks (links ++ l ∷ [])
links_more links l ok h i k e = elim (at_cases links (l ∷ []) i k e) [
  | inl a ↦ ok i k a
  | inr w ↦ last w.0 w.1 w.2
]
  where
    last : (j : ℕ) → i ≡ length links + j → slice_get (l ∷ []) j ≡ Some k → k.parent ≤ i
    last zero a b = let same : l ≡ k = cc in let p : l.parent ≡ k.parent = ap (λ z. z.parent) same in omega arith
    last (suc j) a b = cc

chain-more : (links more : List Link) → AreLinks links → (n at : ℕ) → at ≤ length links → chain n (links ++ more) at ≡ chain n links at
chain-more links more ok zero at h = refl
chain-more links more ok (suc n) zero h = refl
chain-more links more ok (suc n) (suc i) h =
    subst (λ o. (elim o as (λ _. List Fact) [ None ↦ [] | Some l ↦ chain n (links ++ more) l.parent ++ l.fact ∷ [] ]) ≡
    (elim (slice_get links i) as (λ _. List Fact) [ None ↦ [] | Some l ↦ chain n links l.parent ++ l.fact ∷ [] ]))
    (sym (at_first links more i (omega arith)))
    (by_link (slice_get links i) (ok i) (chain-more links more ok n))
  where
    by_link : (o : Option Link) → ((l : Link) → o ≡ Some l → l.parent ≤ i)
        → ((at : ℕ) → at ≤ length links → chain n (links ++ more) at ≡ chain n links at)
        → (elim o as (λ _. List Fact) [ None ↦ [] | Some l ↦ chain n (links ++ more) l.parent ++ l.fact ∷ [] ]) ≡
        (elim o as (λ _. List Fact) [ None ↦ [] | Some l ↦ chain n links l.parent ++ l.fact ∷ [] ])
    by_link None q f = refl
    by_link (Some l) q f = let k = q l refl in ap (λ z. z ++ l.fact ∷ []) (f l.parent (omega arith))

-- further links change no path
pub path_at-more : (root : List Fact) (links more : List Link) → AreLinks links → (at : ℕ) → at ≤ length links
    → path_at root (links ++ more) at ≡ path_at root links at
path_at-more root links more ok at h = ap (λ z. root ++ z) (chain-more links more ok at at h)

pub no_links : AreLinks []
no_links = λ i l e. cc

-- Entries in pairs, one more at a time.
use Rattle.std.proofs.Common.{◌≡◌, ℕ, ◌+◌, ◌<◌, true, false, List, [], ◌∷◌, ◌++◌, length, take, get_or, sym, ap, ◌∙◌, subst, append_assoc, All}
use Rattle.std.specs.Prelude.{IsPermutation, remove}
use Rattle.std.proofs.lemmas.List.{map-append, take_more}
use Rattle.std.proofs.lemmas.List.Elements.{All-nil, All-push, All-tail, All-weaker}
use Rattle.std.proofs.lemmas.List.Sorted.{IsPermutation-refl, IsPermutation-sym, IsPermutation-middle, IsPermutation-to_front, IsPermutation-push_more, IsPermutation-pop_more, IsPermutation-remove, All-permutation}
use Rattle.tt_instance.specs.declared.cell.Cell.{Cell}
use Rattle.tt_changes.specs.Lists.{older_entries, newer_entries}
use Rattle.tt_changes.specs.Inner.Pairings.{are_alike, IsPaired}
use Rattle.tt_changes.specs.declared.change.Change.{Change}
use Rattle.tt_changes.specs.declared.likeness.Likeness.{Likeness}

module _ (by : Likeness) where
  -- no entry of the first list
  pub paired_none : (ys : List Cell) → IsPaired by [] ys [] [] ys
  paired_none ys = record {
    old_is = IsPermutation-refl [];
    new_is = IsPermutation-refl ys;
    alike = All-nil (λ (m : Change). are_alike by m.from m.to ≡ true);
    apart = All-nil (λ (x : Cell). All (λ (y : Cell). are_alike by x y ≡ false) ys);
  }

  -- another pair
  pub paired_more : (xs ys : List Cell) (ps : List Change) (us vs rest : List Cell) (m : Change) → are_alike by m.from m.to ≡ true
      → IsPermutation vs (m.to ∷ rest) → IsPaired by xs ys ps us vs → IsPaired by (xs ++ m.from ∷ []) ys (ps ++ m ∷ []) us rest
  paired_more xs ys ps us vs rest m alike taken h =
      let front = older_entries ps in
      let moved : IsPermutation (m.from ∷ (front ++ us)) ((front ++ m.from ∷ []) ++ us) = rw append_assoc
      (IsPermutation-sym (front ++ m.from ∷ us) (m.from ∷ (front ++ us)) (IsPermutation-middle front m.from us)) in
      record {
        old_is = subst (λ (z : List Cell). IsPermutation (xs ++ m.from ∷ []) (z ++ us))
            (sym (map-append (λ (c : Change). c.from) ps (m ∷ [])))
            (IsPermutation-push_more xs (front ++ us) ((front ++ m.from ∷ []) ++ us) m.from h.old_is moved);
        new_is = subst (λ (z : List Cell). IsPermutation ys (z ++ rest)) (sym (map-append (λ (c : Change). c.to) ps (m ∷ [])))
            (IsPermutation-pop_more ys (newer_entries ps) vs rest m.to h.new_is taken);
        alike = All-push (λ (c : Change). are_alike by c.from c.to ≡ true) ps m h.alike alike;
        apart = All-weaker (λ (x : Cell). All (λ (y : Cell). are_alike by x y ≡ false) vs)
            (λ (x : Cell). All (λ (y : Cell). are_alike by x y ≡ false) rest)
            (λ x k. All-tail (λ (y : Cell). are_alike by x y ≡ false) m.to rest
            (All-permutation (λ (y : Cell). are_alike by x y ≡ false) vs (m.to ∷ rest) taken k)) us h.apart;
      }

  -- another entry that is in no pair
  pub paired_alone : (xs ys : List Cell) (ps : List Change) (us vs : List Cell) (x : Cell) → All (λ (y : Cell). are_alike by x y ≡ false) vs
      → IsPaired by xs ys ps us vs → IsPaired by (xs ++ x ∷ []) ys ps (us ++ x ∷ []) vs
  paired_alone xs ys ps us vs x alone h =
      let front = older_entries ps in
      let moved : IsPermutation (x ∷ (front ++ us)) (front ++ (us ++ x ∷ [])) =
      subst (λ (z : List Cell). IsPermutation (x ∷ (front ++ us)) z) (append_assoc front us (x ∷ []))
      (IsPermutation-sym ((front ++ us) ++ x ∷ []) (x ∷ (front ++ us)) (IsPermutation-to_front (front ++ us) x)) in
      record {
        old_is = IsPermutation-push_more xs (front ++ us) (front ++ (us ++ x ∷ [])) x h.old_is moved;
        new_is = h.new_is;
        alike = h.alike;
        apart = All-push (λ (z : Cell). All (λ (y : Cell). are_alike by z y ≡ false) vs) us x h.apart alone;
      }

-- ---- the loop over the older entries

module _ (by : Likeness) (xs ys : List Cell) (i : ℕ) (x : Cell) (ps qs : List Change) (us ws vs rest : List Cell) (less : i < length xs)
    (here : x ≡ get_or xs i x) (h : IsPaired by (take i xs) ys ps us vs) where
  pub next_paired : (m : Change) → m.from ≡ x → are_alike by x m.to ≡ true → IsPermutation vs (m.to ∷ rest) → qs ≡ ps ++ m ∷ [] → ws ≡ us
      → IsPaired by (take (i + 1) xs) ys qs ws rest
  next_paired m from alike taken more same =
      let front : take (i + 1) xs ≡ take i xs ++ m.from ∷ [] = take_more xs i x less ∙ ap (λ (z : Cell). take i xs ++ z ∷ [])
      (sym here ∙ sym from) in
      let first : are_alike by m.from m.to ≡ true = rw from alike in
      rw (front, more, same) (paired_more by (take i xs) ys ps us vs rest m first taken h)

  pub next_alone : All (λ (y : Cell). are_alike by x y ≡ false) vs → rest ≡ vs → qs ≡ ps → ws ≡ us ++ x ∷ []
      → IsPaired by (take (i + 1) xs) ys qs ws rest
  next_alone alone same none more =
      let front : take (i + 1) xs ≡ take i xs ++ x ∷ [] = take_more xs i x less ∙ ap (λ (z : Cell). take i xs ++ z ∷ []) (sym here) in
      rw (front, more, none, same) (paired_alone by (take i xs) ys ps us vs x alone h)

-- an entry taken out of a list
pub entry_taken : (xs ys rest : List Cell) (i : ℕ) (x : Cell) → ys ≡ xs → i < length ys → x ≡ get_or ys i x → rest ≡ remove ys i
    → IsPermutation xs (x ∷ rest)
entry_taken xs ys rest i x same less here is =
    subst (λ (z : List Cell). IsPermutation z (x ∷ rest)) same
    (rw is (IsPermutation-remove ys i x less here))

-- lists that are the same
pub paired_of : (by : Likeness) (xs ys olds news : List Cell) (ps : List Change) (us vs : List Cell) → olds ≡ xs → news ≡ ys
    → IsPaired by olds news ps us vs → IsPaired by xs ys ps us vs
paired_of by xs ys olds news ps us vs old new h = rw (← old, ← new) h

-- Members are moved in turn.
use Rattle.std.proofs.Common.{◌≡◌, ℕ, ◌+◌, ◌<◌, Bool, true, false, cond, ◌||◌, List, [], ◌∷◌, length, get_or, set, take, refl, sym, ap, ◌∙◌, subst, arith, inl, inr, eq-eqb, ne_eqb}
use Rattle.std.specs.Prelude.{◌==◌}
use Rattle.std.specs.List.Sorted.{IsStrictlyIncreasing}
use Rattle.std.proofs.lemmas.Bool.{cases_eq, cases_Bool, or_right, both_ways}
use Rattle.std.proofs.lemmas.List.{length-set, length-take, get_or-take, get_or-set_same, get_or-set_other, ext_get_or}
use Rattle.std.proofs.lemmas.List.Folds.{list_any_more}
use Rattle.std.proofs.lemmas.List.Kept.{AllPairs-from_increasing}
use Rattle.tt_list_laws.specs.Words.{has_number}
use Rattle.tt_instance.specs.Problem.{Problem}
use Rattle.tt_instance.specs.declared.cell.Cell.{Cell}
use Rattle.tt_instance.specs.declared.cell.Slot.{Slot}
use Rattle.tt_occupancy.specs.Filled.{Filled, no_entry, entry_at}
use Rattle.tt_moves_chain.specs.Chains.{other, turned, moved, swapped_from, swapped}
use Rattle.tt_moves_chain.proofs.Places.{member_at}
use Rattle.tt_moves_chain.proofs.Turned.{length-swapped, get_or-swapped}

abbrev pub filled : Problem → List Cell → Filled
filled p t = record { problem = p; entries = t }

module _ (a b : Slot) where
  none_from : (k : ℕ) (t : List Cell) → swapped_from a b (has_number []) k t ≡ t
  none_from k [] = refl
  none_from k (x ∷ xs) = ap (λ l. x ∷ l) (none_from (k + 1) xs)

  pub swapped_none : (t : List Cell) → swapped a b (has_number []) t ≡ t
  swapped_none t = none_from 0 t

  at_swapped : (m : ℕ → Bool) (t : List Cell) (i : ℕ) → i < length t → entry_at (swapped a b m t) i ≡ moved a b (m i) (entry_at t i)
  at_swapped m t i h =
      let z : 0 + i ≡ i = omega arith in
      get_or-swapped a b m 0 t i no_entry h ∙ ap (λ n. moved a b (m n) (entry_at t i)) z

  -- another member
  swapped_with : (m n : ℕ → Bool) (t : List Cell) (i : ℕ) → i < length t → ((j : ℕ) → n j ≡ (m j || (i == j)))
      → set (swapped a b m t) i (turned a b (entry_at t i)) ≡ swapped a b n t
  swapped_with m n t i h more =
      let s = swapped a b m t in
      let y = turned a b (entry_at t i) in
      let ls = length-swapped a b m 0 t in
      let ln = length-swapped a b n 0 t in
      ext_get_or no_entry (set s i y) (swapped a b n t) (length-set s i y ∙ ls ∙ sym ln) (λ j l.
      let k : j < length t = let e = length-set s i y in omega arith in
      elim (cases_eq j i) [
        | inl e ↦
            let inside : i < length s = omega arith in
            let is : n i ≡ true = more i ∙ or_right (m i) (i == i) (eq-eqb i i refl) in
            ap (entry_at (set s i y)) e ∙ get_or-set_same s i y no_entry inside
            ∙ sym (ap (entry_at (swapped a b n t)) e ∙ at_swapped n t i h ∙ ap (λ z. moved a b z (entry_at t i)) is)
        | inr other_place ↦
            let same : n j ≡ m j = more j ∙ ap (λ z. m j || z) (ne_eqb i j (λ e. other_place (sym e))) ∙ or_false (m j) in
            get_or-set_other s i j y no_entry other_place ∙ at_swapped m t j k
            ∙ sym (at_swapped n t j k ∙ ap (λ z. moved a b z (entry_at t j)) same)
      ])
    where
      or_false : (z : Bool) → (z || false) ≡ z
      or_false true = refl
      or_false false = refl

  module _ (p : Problem) (t : List Cell) (members : List ℕ) (rising : IsStrictlyIncreasing members) (k : ℕ) (h : k < length members)
      (o : Filled) (o_is : o ≡ filled p (swapped a b (has_number (take k members)) t)) where
    abbrev member : ℕ
    member = get_or members k 0

    new_member : has_number (take k members) member ≡ false
    new_member = elim (cases_Bool (has_number (take k members) member)) [
      | inl e ↦
          let w = member_at (take k members) member e in
          let n = length-take k members in
          let below : w.0 < k = omega (arith, w.1) in
          let same = get_or-take k members w.0 0 below in
          let rise = AllPairs-from_increasing members rising w.0 k 0 below h in
          let is = w.2 in
          absurd (omega arith)
      | inr e ↦ e
    ]

    pub still_inside : member < length t → member < length o.entries
    still_inside l = let n = ap (λ z. length z.entries) o_is in let s = length-swapped a b (has_number (take k members)) 0 t in omega arith

    pub swapped_next : member < length t → (x : Cell) → x ≡ entry_at o.entries member → (place : Slot) → place ≡ other a b x
        → filled o.problem
        (set o.entries member
        (record { course = (entry_at o.entries member).course; room = x.room; day = place.day; period = place.period })) ≡ filled p
        (swapped a b (has_number (take (k + 1) members)) t)
    swapped_next l x x_is place place_is =
        let m = has_number (take k members) in
        let was : x ≡ entry_at t member = x_is ∙ ap (λ z. entry_at z.entries member) o_is ∙ at_swapped m t member l
        ∙ ap (λ z. moved a b z (entry_at t member)) new_member in
        ap (λ (y : Cell). filled o.problem
        (set o.entries member (record { course = y.course; room = x.room; day = place.day; period = place.period }))) (sym x_is)
        ∙ ap (λ (s : Slot). filled o.problem
        (set o.entries member (record { course = x.course; room = x.room; day = s.day; period = s.period }))) place_is
        ∙ ap (λ y. filled o.problem (set o.entries member (turned a b y))) was
        ∙ ap (λ (z : Filled). filled z.problem (set z.entries member (turned a b (entry_at t member)))) o_is
        ∙ ap (filled p) (swapped_with m (has_number (take (k + 1) members)) t member l (λ j. list_any_more (λ n. n == j) members k 0 h))

-- A table of rents to which those of a room are added.
use Rattle.std.proofs.Common.{◌≡◌, ℕ, ◌+◌, ◌-◌, ◌*◌, ◌<◌, ◌≤◌, Bool, true, false, cond, ◌||◌, List, [], ◌∷◌, ◌++◌, map, length, get_or, take, drop, refl, sym, ap, subst, ◌∙◌, arith, inl, inr}
use Rattle.std.specs.Prelude.{◌==◌}
use Rattle.std.specs.List.{All}
use Rattle.std.proofs.Math.Nat.{mul-le-mul_right}
use Rattle.std.proofs.Math.Seq.{paste}
use Rattle.std.proofs.lemmas.Bool.{cases_lt, eqb-true, eq-eqb, both_ways}
use Rattle.std.proofs.lemmas.List.{get_or_append_left, get_or-append_right, get_or-take, get_or-drop, get_or_past, length-take-le, map-append}
use Rattle.std.proofs.lemmas.List.Edits.{length-paste, paste_all}
use Rattle.std.proofs.lemmas.List.Elements.{All-get_or, All-from_get_or}
use Rattle.tt_list_laws.specs.Words.{has_number}
use Rattle.tt_list_laws.proofs.Grid.{within_row}
use Rattle.tt_instance.specs.Problem.{Problem}
use Rattle.tt_instance.specs.Cells.{slot}
use Rattle.tt_instance.specs.declared.cell.Slot.{Slot}
use Rattle.tt_prices_text.specs.Reading.{RoomRents}
use Rattle.tt_prices_text.specs.declared.format.TheConstants.{MAX_AMOUNT}
use Rattle.tt_prices_file.specs.Files.{rent_at}
use Rattle.tt_prices_file.specs.Inner.Rents.{IsRentTable}
use Rattle.tt_prices_file.specs.declared.rents.RentTable.{RentTable}
use Rattle.tt_prices_file.proofs.Parts.{rent_at-push}
use Rattle.tt_prices_file.proofs.Priced.{other_row}

-- a room of none of the rents pays none
rent_at-none : (periods : ℕ) (xs : List RoomRents) (r : ℕ) (s : Slot) → has_number (map (λ (x : RoomRents). x.room) xs) r ≡ false
    → rent_at periods xs r s ≡ 0
rent_at-none periods [] r s none = refl
rent_at-none periods (x ∷ xs) r s none = by (x.room == r) (has_number (map (λ (y : RoomRents). y.room) xs) r) none
    (rent_at-none periods xs r s)
  where
    by : (a b : Bool) → (a || b) ≡ false → (b ≡ false → rent_at periods xs r s ≡ 0)
        → cond a (get_or x.rents (s.day * periods + s.period) 0) (rent_at periods xs r s) ≡ 0
    by true b e later = absurd cc
    by false b e later = later e

-- ---- numbers that are copied into a list

module _ (old part : List ℕ) (start : ℕ) (fits : start + length part ≤ length old) where
  abbrev pub pasted : List ℕ
  pasted = paste old start part (length part)

  abbrev is : pasted ≡ take start old ++ (part ++ drop (start + length part) old)
  is = paste_all old start part (length part) refl

  front : length (take start old) ≡ start
  front = length-take-le start old (omega (arith, fits))

  pub pasted-before : (k : ℕ) → k < start → get_or pasted k 0 ≡ get_or old k 0
  pasted-before k l =
      ap (λ xs. get_or xs k 0) is ∙ get_or_append_left (take start old) (part ++ drop (start + length part) old) 0 k
      (omega (arith, front, l))
      ∙ get_or-take start old k 0 l

  behind : (k : ℕ) → start ≤ k → get_or pasted k 0 ≡ get_or (part ++ drop (start + length part) old) (k - start) 0
  behind k l = ap (λ xs. get_or xs k 0) is ∙ get_or-append_right (take start old) (part ++ drop (start + length part) old) start k 0 front l

  pub pasted-within : (j : ℕ) → j < length part → get_or pasted (start + j) 0 ≡ get_or part j 0
  pasted-within j l =
      behind (start + j) (omega arith)
      ∙ (let same : start + j - start ≡ j = omega arith in ap (λ n. get_or (part ++ drop (start + length part) old) n 0) same)
      ∙ get_or_append_left part (drop (start + length part) old) 0 j l

  pub pasted-after : (k : ℕ) → start + length part ≤ k → get_or pasted k 0 ≡ get_or old k 0
  pasted-after k l =
      behind k (omega (arith, l)) ∙ get_or-append_right part (drop (start + length part) old) (length part) (k - start) 0 refl
      (omega (arith, l))
      ∙ get_or-drop (start + length part) old (k - start - length part) 0
      ∙ (let same : start + length part + (k - start - length part) ≡ k = omega (arith, l) in ap (λ n. get_or old n 0) same)

  pub pasted-small : (n : ℕ) → All (λ m. m ≤ n) old → All (λ m. m ≤ n) part → All (λ m. m ≤ n) pasted
  pasted-small n olds parts = All-from_get_or (λ m. m ≤ n) pasted 0 (λ k l.
      let inside : k < length old = omega (arith, l, length-paste old start part (length part) fits (omega arith)) in
      elim (cases_lt k start) [
        | inl h ↦ subst (λ m. m ≤ n) (sym (pasted-before k h)) (All-get_or (λ m. m ≤ n) old k 0 inside olds)
        | inr h ↦ elim (cases_lt k (start + length part)) [
          | inl i ↦
              let here : start + (k - start) ≡ k = omega (arith, h) in
              let short : k - start < length part = omega (arith, h, i) in
              subst (λ m. get_or pasted m 0 ≤ n) here
              (subst (λ m. m ≤ n) (sym (pasted-within (k - start) short)) (All-get_or (λ m. m ≤ n) part (k - start) 0 short parts))
          | inr i ↦ subst (λ m. m ≤ n) (sym (pasted-after k i)) (All-get_or (λ m. m ≤ n) old k 0 inside olds)
        ]
      ])

-- ---- the rents of one more room

module _ (p : Problem) (xs : List RoomRents) (x : RoomRents) (old : RentTable) (table : IsRentTable p xs old)
    (inside : x.room < length p.rooms)
    (few : length x.rents ≤ old.slots) (small : All (λ n. n ≤ MAX_AMOUNT) x.rents)
    (none : has_number (map (λ (y : RoomRents). y.room) xs) x.room ≡ false) where
  abbrev start : ℕ
  start = x.room * old.slots

  abbrev rents : List ℕ
  rents = old.prices.rents.items

  pub rents_fit : start + length x.rents ≤ length rents
  rents_fit = let step = mul-le-mul_right old.slots (next x.room (length p.rooms) inside) in omega (arith, step, few, table.whole)
    where
      next : (a b : ℕ) → a < b → a + 1 ≤ b
      next a b l = omega (arith, l)

  abbrev new_rents : List ℕ
  new_rents = paste rents start x.rents (length x.rents)

  at : (r d s : ℕ) → r < length p.rooms → d < p.days → s < p.periods → (a : Bool) → (x.room == r) ≡ a
      → get_or new_rents (r * old.slots + (d * p.periods + s)) 0
      ≡ cond a (get_or x.rents (d * p.periods + s) 0) (rent_at p.periods xs r (slot d s))
  at r d s rl dl sl true e =
      subst (λ n. get_or new_rents (n * old.slots + (d * p.periods + s)) 0 ≡ get_or x.rents (d * p.periods + s) 0) (eqb-true x.room r e)
      (elim (cases_lt (d * p.periods + s) (length x.rents)) [
        | inl h ↦ pasted-within rents x.rents start rents_fit (d * p.periods + s) h
        | inr h ↦
            pasted-after rents x.rents start rents_fit (start + (d * p.periods + s)) (omega (arith, h))
            ∙ table.rents x.room d s inside dl sl ∙ rent_at-none p.periods xs x.room (slot d s) none
            ∙ sym (get_or_past x.rents (d * p.periods + s) 0 h)
      ])
  at r d s rl dl sl false e =
      elim (other_row old.slots x.room r (d * p.periods + s) (length x.rents) (λ same. both_ways (x.room == r) e (eq-eqb x.room r same))
      place few) [
        | inl h ↦ pasted-before rents x.rents start rents_fit (r * old.slots + (d * p.periods + s)) h
        | inr h ↦ pasted-after rents x.rents start rents_fit (r * old.slots + (d * p.periods + s)) h
      ] ∙ table.rents r d s rl dl sl
    where
      place : d * p.periods + s < old.slots
      place = subst (λ n. d * p.periods + s < n) (sym table.slots) (within_row d p.periods s p.days dl sl)

  pub rented_more : (new : RentTable) → new.slots ≡ old.slots → new.prices.rents.items ≡ new_rents
      → new.rooms.items ≡ old.rooms.items ++ x.room ∷ []
      → IsRentTable p (xs ++ x ∷ []) new
  rented_more new slots is rooms = record {
    slots = slots ∙ table.slots;
    whole = ap length is ∙ length-paste rents start x.rents (length x.rents) rents_fit (omega arith) ∙ table.whole
        ∙ ap (λ n. length p.rooms * n) (sym slots);
    small = subst (All (λ n. n ≤ MAX_AMOUNT)) (sym is) (pasted-small rents x.rents start rents_fit MAX_AMOUNT table.small small);
    rooms = rooms ∙ ap (λ (l : List ℕ). l ++ x.room ∷ []) table.rooms ∙ sym (map-append (λ (y : RoomRents). y.room) xs (x ∷ []));
    rents = λ r d s rl dl sl.
        ap (λ l. get_or l (r * new.slots + (d * p.periods + s)) 0) is
        ∙ ap (λ n. get_or new_rents (r * n + (d * p.periods + s)) 0) slots
        ∙ at r d s rl dl sl (x.room == r) refl ∙ sym (rent_at-push p.periods xs x r (slot d s) none);
  }
